-- Binomial coefficients by their factors
use Rattle.std.proofs.Common.{ℕ, zero, suc, ◌+◌, ◌*◌, ◌≡◌, refl, arith}
use Rattle.fm_gfp.specs.Binomials.{choose}

pub choose_zero : (i : ℕ) → choose i zero ≡ 1
choose_zero zero = refl
choose_zero (suc i) = refl

-- in Pascal's triangle a number is its upper neighbour on either side, times the row, by the place
absorption : (i j : ℕ) → (suc i * choose (suc i) j ≡ (suc i + j) * choose i j) × (suc j * choose i (suc j) ≡ (suc j + i) * choose i j)
absorption zero zero = (refl, refl)
absorption zero (suc j) =
    let before = absorption zero j in
    (omega (arith, before.0), omega arith)
absorption (suc i) zero =
    let before = absorption i zero in
    let edge = choose_zero i in
    (omega (arith, edge), omega (arith, before.1, edge))
absorption (suc i) (suc j) =
    let left = absorption i (suc j) in
    let right = absorption (suc i) j in
    (omega (arith, left.1, right.0, left.0, right.1), omega (arith, left.0, left.1, right.0, right.1))

-- i * (n over i) is n * (n - 1 over i - 1)
pub choose_by_place : (i j : ℕ) → suc i * choose (suc i) j ≡ (suc i + j) * choose i j
choose_by_place i j = (absorption i j).0
