-- The twist of a completed graph: its matrix and each member are twisted.
use Rattle.std.proofs.Common.{ℕ, ◌≡◌, ◌≢◌, ◌^◌, ◌&&◌, Bool, true, false, Ok, Err, List, [], ◌∷◌, ◌++◌, map, refl, sym, ap, ap₂, ◌∙◌}
use Rattle.std.specs.List.{list_all}
use Rattle.fm_algebra.specs.PolynomialMatrices.{matrix_twist}
use Rattle.fm_gfp.specs.Primes.{prime_value}
use Rattle.fm_groebner.specs.Logs.{Entry}
use Rattle.fm_poly.specs.declared.ring.Ring.{Ring}
use Rattle.fm_term.specs.declared.vterm.VTerm.{VTerm}
use Rattle.fm_term.specs.Multiples.{twisted}
use Rattle.fm_vec.specs.Multiples.{twist_fits}
use Rattle.fm_vec.specs.Vectors.{VectorValue}
use Rattle.fm_complete.specs.Divisions.{AreMembers, terms_of}
use Rattle.fm_run.specs.Runs.{Exponent, bounded}
use Rattle.fm_mat.specs.Bounds.{entries_fit}
use Rattle.fm_mat.specs.Matrices.{MatrixValue, matrix_meaning}
use Rattle.fm_graphs.specs.Graphs.{Graph, twisted_graph}
use Rattle.fm_syz.specs.GraphValues.{GraphValue, graph_meaning}

pub members_more : (r : Ring) (rows : ℕ) (vs : List VectorValue) (v : VectorValue) → AreMembers r rows vs → v.ring ≡ r → v.rows ≡ rows → (v.terms ≢ []) → AreMembers r rows (vs ++ v ∷ [])
members_more r rows [] v h a b some = (a, b, some, tt)
members_more r rows (x ∷ vs) v h a b some = (h.0, h.1, h.2, members_more r rows vs v h.3 a b some)

pub twist_some : (q : ℕ) (ts us : List VTerm) → us ≡ twisted q ts → ts ≢ [] → us ≢ []
twist_some q [] us is some = λ e. absurd (some refl)
twist_some q (t ∷ ts) us is some = λ e. cc

-- the twist of a vector of this ring and length
pub twist_is : (r : Ring) (rows e : ℕ) (v w : VectorValue) → v.ring ≡ r → v.rows ≡ rows → w ≡ record { ring = v.ring; rows = v.rows; terms = twisted (prime_value v.ring.prime ^ e) v.terms }
    → w ≡ record { ring = r; rows = rows; terms = twisted (prime_value r.prime ^ e) v.terms }
twist_is r rows e v w ring same made = made ∙ ap₂ (λ (s : Ring) k. record { ring = s; rows = k; terms = twisted (prime_value s.prime ^ e) v.terms }) ring same

module _ (r s : Ring) (e : ℕ) (g : GraphValue) (members : List VectorValue) (units : ℕ) (ring : s ≡ r) (same : members ≡ g.members) where
  abbrev Fit : Bool
  Fit = list_all (twist_fits (prime_value s.prime ^ e)) (terms_of members)

  abbrev Entries : Bool
  Entries = entries_fit r.prime r.vars e (matrix_meaning r g.matrix)

  fit_is : Fit ≡ list_all (twist_fits (prime_value r.prime ^ e)) (terms_of g.members)
  fit_is = ap (λ (q : Ring). list_all (twist_fits (prime_value q.prime ^ e)) (terms_of members)) ring ∙ ap (λ vs. list_all (twist_fits (prime_value r.prime ^ e)) (terms_of vs)) same

  abbrev Whole : Graph r
  Whole = record { matrix = matrix_twist r.prime r.vars e (matrix_meaning r g.matrix); members = map (twisted (prime_value r.prime ^ e)) (terms_of g.members); log = g.log }

  twist_ends_as : (b : Bool) → (Entries && Fit) ≡ b → twisted_graph r e (graph_meaning r g) units ≡ bounded b Whole units
  unfolding twisted_graph
  twist_ends_as b is = ap (λ x. bounded x Whole units) (ap (λ x. Entries && x) (sym fit_is) ∙ is)

  pub twist_ends : (h : GraphValue) (matrix : MatrixValue) (out : List VectorValue) (log : List Entry) → h ≡ record { matrix = matrix; members = out; log = log }
      → matrix_meaning r matrix ≡ matrix_twist r.prime r.vars e (matrix_meaning r g.matrix) → terms_of out ≡ map (twisted (prime_value s.prime ^ e)) (terms_of members) → log ≡ g.log
      → Entries ≡ true → Fit ≡ true → twisted_graph r e (graph_meaning r g) units ≡ record { end = Ok (graph_meaning r h); left = units }
  twist_ends h matrix out log made value terms kept entries fit =
      twist_ends_as true (ap₂ (λ a b. a && b) entries fit) ∙ (λ i. record { end = Ok (is i); left = units })
    where
      are : terms_of out ≡ map (twisted (prime_value r.prime ^ e)) (terms_of g.members)
      are = terms ∙ ap (λ (q : Ring). map (twisted (prime_value q.prime ^ e)) (terms_of members)) ring ∙ ap (λ vs. map (twisted (prime_value r.prime ^ e)) (terms_of vs)) same

      is : Whole ≡ graph_meaning r h
      is = (λ i. record { matrix = sym value i; members = sym are i; log = sym kept i }) ∙ ap (graph_meaning r) (sym made)

  pub entries_pass : Entries ≡ false → twisted_graph r e (graph_meaning r g) units ≡ record { end = Err Exponent; left = units }
  entries_pass h = twist_ends_as false (ap (λ b. b && Fit) h)

  pub members_pass : Fit ≡ false → twisted_graph r e (graph_meaning r g) units ≡ record { end = Err Exponent; left = units }
  members_pass h = twist_ends_as false (ap (λ b. Entries && b) h ∙ never Entries)
    where
      never : (b : Bool) → (b && false) ≡ false
      never true = refl
      never false = refl
