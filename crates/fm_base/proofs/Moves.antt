-- Bytes that move from a source or into a sink, part after part
use Rattle.std.proofs.Common.{ℕ, ◌+◌, ◌-◌, ◌≤◌, ◌≡◌, ◌∙◌, List, [], ◌∷◌, ◌++◌, Option, length, length-append, take, drop, refl, sym, ap, ap₂, subst, length-drop, arith, take-append-drop}
use Rattle.std.proofs.lemmas.List.{take_rest, drop-drop, length-take-le}
use Rattle.std.specs.Io.KnownBytes.{Appends, Consumes, Keeps}
use Rattle.std.proofs.KnownBytes.{Appends-trans, Appends-kept, Consumes-trans}
use Rattle.std.proofs.Math.Seq.{take-add, take-append_seam}
use Rattle.fm_base.specs.Parts.{AppendsPrefix, ConsumesCount}

pub appends_more : (a b c : Option (List ℕ)) (at n : ℕ) (xs : List ℕ) → Appends a b (take at xs)
    → Appends b c (take n (take (length xs - at) (drop at xs))) → Appends a c (take (at + n) xs)
appends_more a b c at n xs p q =
    let r : Appends b c (take n (drop at xs)) = subst (λ ys. Appends b c (take n ys)) (take_rest xs at) q in
    subst (Appends a c) (sym (take-add at n xs)) (Appends-trans a b c _ _ p r)

pub within_rest : (at n : ℕ) (xs : List ℕ) → at ≤ length xs → n ≤ length (take (length xs - at) (drop at xs)) → at + n ≤ length xs
within_rest at n xs h k =
    let rest : length (take (length xs - at) (drop at xs)) ≡ length (drop at xs) = ap length (take_rest xs at) in
    omega (arith, length-drop at xs)

pub appends_prefix : (a b c : Option (List ℕ)) (at : ℕ) (xs : List ℕ) → Appends a b (take at xs) → Keeps b c → AppendsPrefix a c xs
appends_prefix a b c at xs p q = (take at xs, drop at xs, sym (take-append-drop at xs), Appends-kept a b c (take at xs) p q)

-- n bytes that lie at a place go before the rest
pub given : (at n : ℕ) (xs ys copied : List ℕ) → at + n ≤ length xs → copied ≡ take ((at + n) - at) (drop at xs)
    → drop at xs ≡ take n (copied ++ ys) ++ drop (at + n) xs
given at n xs ys copied l e =
    let count : (at + n) - at ≡ n = omega arith in
    let within : n ≤ length (drop at xs) = omega (arith, length-drop at xs) in
    let part : copied ≡ take n (drop at xs) = e ∙ ap (λ k. take k (drop at xs)) count in
    let long : length copied ≡ n = ap length part ∙ length-take-le n (drop at xs) within in
    let front : take n (copied ++ ys) ≡ copied = subst (λ k. take k (copied ++ ys) ≡ copied) long (take-append_seam copied ys) in
    sym (take-append-drop n (drop at xs)) ∙ ap₂ (λ x y. x ++ y) (sym (front ∙ part)) (drop-drop n at xs)

-- two parts together, counted
pub consumed_count : (a b c : Option (List ℕ)) (xs ys : List ℕ) (m n : ℕ) → Consumes a b xs → Consumes b c (take n ys) → n ≤ length ys → length xs + n ≡ m → ConsumesCount a c m
consumed_count a b c xs ys m n p q l e =
    let part : length (take n ys) ≡ n = length-take-le n ys l in
    let count : length (xs ++ take n ys) ≡ m = omega (arith, length-append xs (take n ys)) in
    (xs ++ take n ys, count, Consumes-trans a b c xs (take n ys) p q)
