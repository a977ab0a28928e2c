-- The places of a certificate, for one line each, and which comes after which.
use Rattle.std.specs.Prelude.{ℕ, zero, suc, true, false, if◌then◌else◌, nat_lt, List, [], ◌∷◌, length, Some, None}
use Rattle.fm_poly.specs.Polys.{PolyValue}
use Rattle.fm_report.specs.Parts.{Part}
use Rattle.fm_judge.specs.Goals.{Aim, Goal, membership, resolution, ext, vanishing, dying, living, inverting, support, outgoing, incoming}

-- Numbers count from 0: `differential j` is the place of the line `d j+1`, `exactness j` that of `exact j+1`, `lift j` that of `theta j`, `chain s` that
-- of `chain s+1`, and `turn s` that of `grows s` or `stable s`.
pub data Place : Type 0 where
  datum : Place
  differential : (j : ℕ) → Place
  exactness : (j : ℕ) → Place
  lift : (j : ℕ) → Place
  cocycles relations morphism : Place
  chain : (s : ℕ) → Place
  turn : (s : ℕ) → Place
  -- K_t is everything, or not
  whole : (t : ℕ) → Place
  proper : (t : ℕ) → Place
  -- the coordinates w of a class, where t is the place of the repeat; w isn't in im K_k^[q]; w is in im K_m^[q]; w isn't in im K_t^[q]
  coordinates : (t : ℕ) → Place
  lives : (w : Part) (t k : ℕ) → Place
  dies : (w : Part) (t m : ℕ) → Place
  lives_on : (w : Part) (t : ℕ) → Place
  -- f^k sends everything into K_t; f^k doesn't
  power : (f : PolyValue) (t k : ℕ) → Place
  least : (f : PolyValue) (t k : ℕ) → Place
  -- C_1 .. C_j are found, the colons of C_0 = K_t by powers of f: `colon j+1`, or where there is one `settles j`; then C_(j-1) isn't everything
  colon : (f : PolyValue) (t : ℕ) (found : List Part) → Place
  proper_colon : (t : ℕ) (found : List Part) → Place
  -- the polynomials that send everything into K_t, which these generate
  annihilator : (ideal : List PolyValue) (t : ℕ) → Place
  -- `datum` of the target of a map, where the first repeat of the source is at t
  datum_beyond : (t : ℕ) → Place
  -- From here on t is the first repeat of the target. `lambda j`, where lambda_0 .. lambda_(j-1) are these; then `phi`.
  lambda : (t : ℕ) (identity : List Part) → Place
  phi : (t : ℕ) (identity : List Part) → Place
  -- the columns of Phi lie in im K_t, or not
  null : (t : ℕ) (Phi : Part) → Place
  nonnull : (t : ℕ) (Phi : Part) → Place
  -- all that Phi sends into im K_t; it lies in the stable kernel of the source, or not
  fibre : (t : ℕ) (Phi : Part) → Place
  one : (t : ℕ) (Phi C : Part) → Place
  notone : (t : ℕ) (Phi C : Part) → Place
  -- L_1 .. L_r are found, the chain that begins with L_0 = [N | Phi]: `link r+1`, where the answer says how many there are; where the
  -- map isn't onto, there is any number from 1 on, and then `closes r-1`
  link : (t : ℕ) (Phi : Part) (found : List Part) → Place
  open_link : (t : ℕ) (Phi : Part) (found : List Part) → Place
  -- the last but one isn't everything, and the last is; or the last adds nothing, and the last but one isn't everything
  short : (t : ℕ) (Phi : Part) (found : List Part) → Place
  onto : (t : ℕ) (Phi : Part) (found : List Part) → Place
  never_onto : (t : ℕ) (Phi : Part) (found : List Part) → Place
  -- the row of generators of an ideal, and whether f is a combination of it
  ideal_row : Place
  cofactors : (d : Part) → Place
  foreign : (d : Part) → Place
  -- the certificate has ended
  end : Place

abbrev pub first_place : Aim → Place
first_place (membership f inside) = ideal_row
first_place aim = datum

-- after the resolution
abbrev pub after_resolution : Aim → Place
after_resolution (resolution ranks) = end
after_resolution aim = lift 0

-- after j lines `exact`
abbrev pub after_exact : Goal → ℕ → Place
after_exact g j = if nat_lt j g.degree then exactness j else after_resolution g.aim

-- after d_1 .. d_j
abbrev pub after_differential : Goal → ℕ → Place
after_differential g j = if nat_lt j (suc g.degree) then differential j else after_exact g 0

-- after theta_0 .. theta_(j-1)
abbrev pub after_lift : Goal → ℕ → Place
after_lift g j = if nat_lt j (suc g.degree) then lift j else cocycles

abbrev pub after_morphism : Aim → Place
after_morphism (ext g n) = end
after_morphism aim = chain 0

-- after `stable t`
abbrev pub after_stable : Aim → ℕ → Place
after_stable (vanishing true moves) t = whole t
after_stable (vanishing false moves) t = proper t
after_stable (dying e z moves) t = coordinates t
after_stable (living e z) t = coordinates t
after_stable (inverting f (Some k)) t = power f t k
after_stable (inverting f None) t = colon f t []
after_stable (support ideal) t = annihilator ideal t
after_stable (outgoing target is_zero is_one stage) t = datum_beyond t
after_stable (incoming source is_zero is_one stage) t = lambda t []
after_stable aim t = end

-- after the coordinates: no fewer moves are to do than the answer says
abbrev pub before_dying : Part → (t moves : ℕ) → Place
before_dying w t zero = dies w t 0
before_dying w t (suc k) = lives w t k

abbrev pub after_coordinates : Aim → Part → ℕ → Place
after_coordinates (dying e z moves) w t = before_dying w t moves
after_coordinates aim w t = lives_on w t

-- after `power`: no smaller power annihilates
abbrev pub after_power : PolyValue → (t k : ℕ) → Place
after_power f t zero = end
after_power f t (suc k) = least f t k

-- after lambda_0 .. lambda_(j-1)
abbrev pub after_lambda : Goal → (t : ℕ) → List Part → Place
after_lambda g t identity = if nat_lt (length identity) (suc g.degree) then lambda t identity else phi t identity

abbrev pub after_phi : Aim → (t : ℕ) (Phi : Part) → Place
after_phi (incoming source true is_one stage) t Phi = null t Phi
after_phi aim t Phi = nonnull t Phi

abbrev pub after_fibre : Aim → (t : ℕ) (Phi C : Part) → Place
after_fibre (incoming source is_zero true stage) t Phi C = one t Phi C
after_fibre aim t Phi C = notone t Phi C

-- after all links: no smaller number of them makes the map onto
abbrev pub after_links : (t : ℕ) (Phi : Part) (found : List Part) → Place
after_links t Phi [] = onto t Phi []
after_links t Phi (L ∷ found) = short t Phi (L ∷ found)

-- after r links
abbrev pub after_link : Aim → (t : ℕ) (Phi : Part) (found : List Part) → Place
after_link (incoming source is_zero is_one (Some s)) t Phi found = if nat_lt (length found) s then link t Phi found else after_links t Phi found
after_link aim t Phi found = open_link t Phi found

abbrev pub after_row : Aim → Part → Place
after_row (membership f true) d = cofactors d
after_row aim d = foreign d
