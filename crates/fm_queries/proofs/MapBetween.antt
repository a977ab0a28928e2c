-- The tasks from `lambda 1` on, call by call, in the ring of the source.
use Rattle.std.proofs.Common.{Vec, Global, ℕ, ◌≡◌, ◌<◌, ◌∷◌, List, length, take, Result, Ok, Err, refl, sym, ap, ◌∙◌, subst}
use Rattle.std.specs.Prelude.{IsErr, IsErrAnd}
use Rattle.fm_algebra.specs.PolynomialMatrices.{matrix_unit}
use Rattle.fm_graphs.specs.Graphs.{MatrixOf}
use Rattle.fm_limit.specs.ResolvedIdeal.{IsLiftOfIdentityOf, matrix_at}
use Rattle.fm_mat.specs.declared.matrix.Matrix.{Matrix}
use Rattle.fm_mat.specs.Matrices.{MatrixValue, matrix_meaning}
use Rattle.fm_plan.specs.Following.{FollowsPlan, unanswered_by}
use Rattle.fm_plan.specs.Queries.{mapped, over_identity, phi_work}
use Rattle.fm_plan.specs.Results as plans
use Rattle.fm_plan.specs.Tasks.{task}
use Rattle.fm_poly.specs.declared.ring.Ring.{Ring}
use Rattle.fm_run.specs.declared.task.Name.TheVariants as names
use Rattle.fm_run.specs.declared.task.Side.TheVariants.{Alone}
use Rattle.fm_run.specs.declared.task.Stopped.{Stopped}
use Rattle.fm_run.proofs.Parts.{failed}
use Rattle.fm_syz.specs.GraphValues.{graph_meaning}
use Rattle.fm_lift.specs.Lifts.{after_the_first, matrices_meaning}
use Rattle.fm_resolve.specs.Resolutions.{resolution_value}
use Rattle.fm_ext.specs.Exts.{IsExt, cocycles_matrix, differentials, ring_of}
use Rattle.fm_queries.specs.Bases.{BaseValue, base_meaning}
use Rattle.fm_queries.specs.Maps.{between_value}
use Rattle.fm_queries.specs.declared.comparing.Compared.{Compared}
use Rattle.fm_queries.specs.declared.map.Between.{Between}
use Rattle.fm_queries.proofs.MapPlans.{compare_ends, compare_stops, lift_stops, phi_stops}
use Rattle.fm_queries.proofs.MapShapes.{lift_columns, lift_long, lift_rows}
use Rattle.fm_queries.proofs.MapTold.{Compares}

module _ (i : ℕ) (b d : BaseValue) where
  abbrev r : Ring
  r = ring_of b.ext

  abbrev Follows : Result Between Stopped → (old new : ℕ) → Type 0
  Follows answer old new = (fs gs : plans.Ideal r) → FollowsPlan (between_value r i fs gs b d) answer old new (mapped r i fs gs (base_meaning r b) (base_meaning r d) old)

  abbrev Lifted : Result (Vec Matrix Global) Stopped → (old new : ℕ) → Type 0
  Lifted result old new = FollowsPlan (λ (ls : Vec Matrix Global). after_the_first (matrices_meaning r ls.items)) result old new
      (over_identity r 1 (matrix_unit r.prime r.vars 1) (take i (differentials r d.ext.resolution)) (take i (plans.graphs_of r (resolution_value r b.ext.resolution))) old)

  pub lambda_fails : (old new : ℕ) (z : Stopped) → Lifted (Err z) old new → (answer : Result Between Stopped) → IsErr answer × IsErrAnd answer (λ e. e ≡ z) → Follows answer old new
  lambda_fails old new z h answer is = λ fs gs. failed (between_value r i fs gs b d) unanswered_by answer z old new (mapped r i fs gs (base_meaning r b) (base_meaning r d) old) is
      (lift_stops r i fs gs (between_value r i fs gs b d) (base_meaning r b) (base_meaning r d) old new z h)

  module _ (ls : Vec Matrix Global) (items : List MatrixValue) (same : items ≡ ls.items) where
    module _ (E : IsExt b.ext) (E' : IsExt d.ext) (over : ring_of d.ext ≡ r) (long_b : length b.ext.resolution.next ≡ i) (long_d : length d.ext.resolution.next ≡ i)
        (lift : IsLiftOfIdentityOf r.prime r.vars i (differentials r d.ext.resolution) (differentials r b.ext.resolution) (matrices_meaning r ls.items)) where
      pub long : i < length items
      long = subst (λ (ms : List MatrixValue). i < length ms) (sym same) (lift_long r i b.ext d.ext E E' refl over long_b long_d ls.items lift)

      module _ (m : MatrixValue) (at : matrix_at r.prime r.vars (matrices_meaning r items) i ≡ matrix_meaning r m) where
        there : matrix_at r.prime r.vars (matrices_meaning r ls.items) i ≡ matrix_meaning r m
        there = subst (λ (ms : List MatrixValue). matrix_at r.prime r.vars (matrices_meaning r ms) i ≡ matrix_meaning r m) same at

        pub matrix_rows : m.rows ≡ (cocycles_matrix b.ext).rows
        matrix_rows = lift_rows r i b.ext d.ext E E' refl over long_b long_d ls.items lift m there

        pub matrix_columns : length m.columns ≡ (cocycles_matrix d.ext).rows
        matrix_columns = lift_columns r i b.ext d.ext E E' refl over long_b long_d ls.items lift m there

    abbrev later : List (MatrixOf r)
    later = after_the_first (matrices_meaning r ls.items)

    module _ (first : matrices_meaning r ls.items ≡ matrix_unit r.prime r.vars 1 ∷ later) (old four : ℕ) (lifts : Lifted (Ok ls) old four)
        (m : MatrixValue) (at : matrix_at r.prime r.vars (matrices_meaning r items) i ≡ matrix_meaning r m) where
      last : matrix_meaning r m ≡ matrix_at r.prime r.vars (matrix_unit r.prime r.vars 1 ∷ later) i
      last = sym at ∙ ap (λ (ms : List MatrixValue). matrix_at r.prime r.vars (matrices_meaning r ms) i) same ∙ ap (λ (ms : List (MatrixOf r)). matrix_at r.prime r.vars ms i) first

      abbrev InducedBy : MatrixOf r → Result MatrixValue Stopped → ℕ → Type 0
      InducedBy L result five = FollowsPlan (matrix_meaning r) result four five
          (task Alone names.Phi 0 (phi_work r L (matrix_meaning r (cocycles_matrix b.ext)) (graph_meaning r d.ext.cocycles.generators.graph)) four)

      induces : (result : Result MatrixValue Stopped) (five : ℕ) → InducedBy (matrix_meaning r m) result five → InducedBy (matrix_at r.prime r.vars (matrix_unit r.prime r.vars 1 ∷ later) i) result five
      induces result five h = subst (λ (L : MatrixOf r). InducedBy L result five) last h

      pub phi_fails : (five : ℕ) (e : Stopped) → InducedBy (matrix_meaning r m) (Err e) five → (answer : Result Between Stopped) → IsErr answer × IsErrAnd answer (λ x. x ≡ e) → Follows answer old five
      phi_fails five e h answer is = λ fs gs. failed (between_value r i fs gs b d) unanswered_by answer e old five (mapped r i fs gs (base_meaning r b) (base_meaning r d) old) is
          (phi_stops r i fs gs (between_value r i fs gs b d) (base_meaning r b) (base_meaning r d) old four later lifts five e (induces (Err e) five h))

      module _ (five : ℕ) (phi : MatrixValue) (h : InducedBy (matrix_meaning r m) (Ok phi) five) (new : ℕ) where
        pub compare_fails : (e : Stopped) → Compares r b d phi (Err e) five new → (answer : Result Between Stopped) → IsErr answer × IsErrAnd answer (λ x. x ≡ e) → Follows answer old new
        compare_fails e k answer is = λ fs gs. failed (between_value r i fs gs b d) unanswered_by answer e old new (mapped r i fs gs (base_meaning r b) (base_meaning r d) old) is
            (compare_stops r i fs gs (between_value r i fs gs b d) b d old four later lifts five phi (induces (Ok phi) five h) new e k)

        pub compare_goes : (c : Compared) → Compares r b d phi (Ok c) five new
            → Follows (Ok (record { lambda = ls; phi = phi; null = c.null; fibre = c.fibre; onto = c.onto })) old new
        compare_goes c k = λ fs gs. compare_ends r i fs gs (between_value r i fs gs b d) b d old four later lifts five phi (induces (Ok phi) five h) new c k ls.items first
            (record { lambda = ls; phi = phi; null = c.null; fibre = c.fibre; onto = c.onto }) refl
