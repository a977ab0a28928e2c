-- The plan of an induced map answers rightly.
use Rattle.std.proofs.Common.{ℕ, ◌+◌, ◌≡◌, ◌↔◌, true, None, List, ◌∷◌, take, length, sym, ap, ◌∙◌, subst, subst₂, arith}
use Rattle.fm_gfp.specs.declared.prime.Prime.{Prime}
use Rattle.fm_algebra.specs.PolynomialMatrices.{HasShape, GeneratesPreimage, matrix_unit}
use Rattle.fm_limit.specs.ResolvedIdeal.{ResolvedIdeal, matrix_at, row}
use Rattle.fm_limit.specs.Facts.{ColumnsInImage, MapFacts}
use Rattle.fm_limit.specs.Verdicts.{RestsOn, Holds, HoldsOfOnto, induced_map}
use Rattle.fm_limit.proofs.VerdictLaws.{map_verdict, onto_no_verdict, onto_yes_verdict}
use Rattle.fm_limit.proofs.MatrixWords.{shape_rows, shape_columns}
use Rattle.fm_poly.specs.declared.ring.Ring.{Ring}
use Rattle.fm_run.specs.Runs.{ready, ◌>>=◌}
use Rattle.fm_graphs.specs.Graphs.{MatrixOf, Inside, width, inside_run}
use Rattle.fm_graphs.specs.Trims.{Preimage, preimage_run}
use Rattle.fm_run.proofs.Ends.{Ends, same_value, bound}
use Rattle.fm_graphs.proofs.Lifts.{inside_is}
use Rattle.fm_graphs.proofs.Preimages.{preimage_run_is}
use Rattle.fm_run.specs.declared.task.Side.TheVariants.{Alone, Source, Target}
use Rattle.fm_plan.specs.Tasks.{not_contained, task}
use Rattle.fm_plan.specs.Results.{Ideal, graphs_of, differentials_of, resolved, kernels, stable_index}
use Rattle.fm_plan.specs.Queries.{BaseOf, base_plan, is_yes, contained_work, unless, over_identity, fibre_work, phi_work, compared, mapped, Onto, onto_at, never_onto, onto_plan, onto_of, Found, found_map, ask_map, plan, verdict}
use Rattle.fm_plan.proofs.Tasks.{task_ends, unless_ends}
use Rattle.fm_plan.proofs.Lifting.{graphs_at}
use Rattle.fm_plan.proofs.Bases.{Based, base_is, says_decides}
use Rattle.fm_plan.proofs.Identities.{contained_is, identity_is, phi_is}
use Rattle.fm_plan.proofs.Joining.{OntoSays, onto_is}
use Rattle.fm_run.specs.declared.task.Name.TheVariants as names

module _ (r : Ring) (i : ℕ) (fs gs : Ideal r) (b c : BaseOf r) (B : Based r i fs b) (C : Based r i gs c) (contained : ColumnsInImage r.prime r.vars (row r.prime r.vars fs) (row r.prime r.vars gs)) where
  abbrev p : Prime
  p = r.prime

  abbrev n : ℕ
  n = r.vars

  abbrev J : ResolvedIdeal p n
  J = resolved r fs b.ext

  abbrev I : ResolvedIdeal p n
  I = resolved r gs c.ext

  abbrev KS : List (MatrixOf r)
  KS = kernels r b.ext b.chain

  abbrev KT : List (MatrixOf r)
  KT = kernels r c.ext c.chain

  abbrev ZS : MatrixOf r
  ZS = b.ext.cocycles.found

  abbrev ZT : MatrixOf r
  ZT = c.ext.cocycles.found

  abbrev gS : ℕ
  gS = length ZS.columns

  abbrev gT : ℕ
  gT = length ZT.columns

  -- a lift of the identity, and Phi
  map_facts : (lambdas : List (MatrixOf r)) (units left more rest : ℕ) (phi : MatrixOf r) → Ends (over_identity r 1 (matrix_unit p n 1) (take i (differentials_of r c.ext.resolution)) (take i (graphs_of r b.ext.resolution)) units) lambdas left
      → Ends (phi_work r (matrix_at p n (matrix_unit p n 1 ∷ lambdas) i) ZS c.ext.cocycles.graph more) phi rest → MapFacts p n i J I (matrix_unit p n 1 ∷ lambdas) ZS ZT phi
  unfolding phi_work
  map_facts lambdas units left more rest phi e h =
      let D = C.facts.resolved.resolution in
      let S = B.facts.resolved.resolution in
      let x = b.ext.resolution in
      let X = B.resolution in
      let G = graphs_at r fs i x X i 0 x.first x.next X.first X.next (λ l. ap (matrix_at p n (differentials_of r x)) (plain l)) (omega arith) (let l = X.long in omega (arith, l)) in
      let L = identity_is r D S contained (take i (graphs_of r x)) G.0 G.1 units left lambdas e in
      let P = phi_is r D S contained (matrix_unit p n 1 ∷ lambdas) L gS gT ZS ZT B.facts.ext.cocycles_fit C.facts.ext.cocycles_fit B.facts.ext.cocycles C.facts.ext.cocycles c.ext.cocycles.graph C.cocycles C.cocycles_matrix more rest phi h in
      record { identity = L; fits = P.0; square = P.1 }
    where
      plain : (l : ℕ) → l ≡ 0 + l
      plain l = omega arith

  module _ (ls : List (MatrixOf r)) (phi : MatrixOf r) (F : MapFacts p n i J I ls ZS ZT phi) where
    relations_shape : HasShape p n gT (length c.ext.relations.found.columns) c.ext.relations.found
    unfolding matrix_at
    relations_shape = C.facts.ext.relations_fit

    phi_shape : HasShape p n gT (length phi.columns) phi
    phi_shape = subst (λ k. HasShape p n gT k phi) (sym (shape_columns p n gT gS phi F.fits)) F.fits

    onto_right : (s : Onto r) → OntoSays r c.ext.relations.found phi c.ext.u gT C.facts.ext.morphism_fits relations_shape phi_shape s → HoldsOfOnto p n i J I ls (onto_of r s)
    unfolding matrix_at
    onto_right (onto_at first links w before) says = onto_yes_verdict p n B.facts C.facts F says.0 (length links) says.1 says.2 says.3
    onto_right (never_onto first links w proper) says = onto_no_verdict p n B.facts C.facts F says.0 says.1 says.2 says.3 says.4

    stable_shape : HasShape p n gT (width r c.chain.stable) c.chain.stable.matrix
    stable_shape = subst₂ (λ k A. HasShape p n k (length A.columns) A) (shape_columns p n gT gT c.ext.u C.facts.ext.morphism_fits) (sym C.stable_matrix) (C.facts.chain.fits (stable_index r c.chain) (omega arith))

    source_rows : gS ≡ b.chain.stable.matrix.rows
    source_rows = sym (shape_columns p n gS gS b.ext.u B.facts.ext.morphism_fits) ∙ sym (ap (λ (A : MatrixOf r). A.rows) B.stable_matrix
        ∙ shape_rows p n (length b.ext.u.columns) (length (matrix_at p n KS (stable_index r b.chain)).columns) (matrix_at p n KS (stable_index r b.chain)) (B.facts.chain.fits (stable_index r b.chain) (omega arith)))

    map_holds : (null : Inside r) (fibre : Preimage r) (one : Inside r) (s : Onto r) (units left more rest : ℕ) → Ends (inside_run r phi c.chain.stable units) null left
        → Ends (fibre_work r phi c.chain.stable.matrix b.chain.stable more) (fibre, one) rest → HoldsOfOnto p n i J I ls (onto_of r s) → Holds p n (induced_map i J I ls (is_yes r null) (is_yes r one) (onto_of r s))
    unfolding fibre_work
    map_holds null fibre one s units left more rest e h o =
        let K = c.chain.stable.matrix in
        let phi_shape : HasShape p n K.rows gS phi = subst (λ k. HasShape p n k gS phi) (sym (shape_rows p n gT (width r c.chain.stable) K stable_shape)) F.fits in
        let zero = says_decides r c.chain.stable C.stable phi null (inside_is r c.chain.stable C.stable phi gS phi_shape units left null e) in
        let a = bound (preimage_run r phi K) (λ x. inside_run r x.found b.chain.stable >>= λ y. ready (x, y)) more rest (fibre, one) h in
        let x = a.value in
        let Q = preimage_run_is r gT gS (width r c.chain.stable) phi K F.fits stable_shape more a.between x a.first in
        let d = bound (inside_run r x.found b.chain.stable) (λ y. ready (x, y)) a.between rest (fibre, one) a.second in
        let c_shape : HasShape p n gS (length x.found.columns) x.found = subst (λ k. HasShape p n k (length x.found.columns) x.found) (shape_columns p n gT gS phi F.fits) Q.generating.found_shape in
        let says = inside_is r b.chain.stable B.stable x.found (length x.found.columns) (subst (λ k. HasShape p n k (length x.found.columns) x.found) source_rows c_shape) a.between d.between d.value d.first in
        let lies = says_decides r b.chain.stable B.stable x.found d.value says in
        let same = same_value (x, d.value) (fibre, one) d.between rest d.second in
        let found_same : x ≡ fibre = ap (λ (q : Preimage r × Inside r). q.0) same in
        let one_same : d.value ≡ one = ap (λ (q : Preimage r × Inside r). q.1) same in
        subst (λ y. Holds p n (induced_map i J I ls (is_yes r null) (is_yes r y) (onto_of r s))) one_same
        (map_verdict p n B.facts C.facts F x.found c_shape (subst (GeneratesPreimage p n x.found phi) C.stable_matrix Q.generates) (is_yes r null) (is_yes r d.value) (onto_of r s)
        (subst (λ A. (is_yes r null ≡ true) ↔ ColumnsInImage p n A phi) C.stable_matrix zero)
        (subst (λ A. (is_yes r d.value ≡ true) ↔ ColumnsInImage p n A x.found) B.stable_matrix lies) o)

    compared_right : (units left : ℕ) (x : Found r) → Ends (compared r b c phi (λ null one s. found_map i fs gs b c ls phi null one.0 one.1 s) units) x left → RestsOn p n (verdict r x) × Holds p n (verdict r x)
    unfolding compared verdict
    compared_right units left x ends =
        let ending = λ (null : Inside r) (one : Preimage r × Inside r). onto_plan r c.ext.relations.found phi c.ext.u >>= λ s. ready (found_map i fs gs b c ls phi null one.0 one.1 s) in
        let null_work = inside_run r phi c.chain.stable in
        let one_work = fibre_work r phi c.chain.stable.matrix b.chain.stable in
        let nb = bound (task Alone names.Null 0 null_work) (λ null. task Alone names.One 0 one_work >>= ending null) units left x ends in
        let ob = bound (task Alone names.One 0 one_work) (ending nb.value) nb.between left x nb.second in
        let s = bound (onto_plan r c.ext.relations.found phi c.ext.u) (λ s. ready (found_map i fs gs b c ls phi nb.value (ob.value).0 (ob.value).1 s)) ob.between left x ob.second in
        let says = onto_is r c.ext.relations.found phi c.ext.u gT C.facts.ext.morphism_fits relations_shape phi_shape ob.between s.between s.value s.first in
        subst (λ x. RestsOn p n (verdict r x) × Holds p n (verdict r x)) (same_value (found_map i fs gs b c ls phi nb.value (ob.value).0 (ob.value).1 s.value) x s.between left s.second) (
          (B.facts.resolved, C.facts.resolved, F.identity),
          map_holds nb.value (ob.value).0 (ob.value).1 s.value units nb.between nb.between ob.between (task_ends Alone names.Null 0 null_work units nb.between nb.value nb.first)
              (task_ends Alone names.One 0 one_work nb.between ob.between ob.value ob.first) (onto_right s.value says),
        )

  mapped_right : (units left : ℕ) (x : Found r) → Ends (mapped r i fs gs b c units) x left → RestsOn p n (verdict r x) × Holds p n (verdict r x)
  unfolding mapped
  mapped_right units left x ends =
      let unit = matrix_unit p n 1 in
      let work = λ (lambdas : List (MatrixOf r)). phi_work r (matrix_at p n (unit ∷ lambdas) i) ZS c.ext.cocycles.graph in
      let ending = λ (lambdas : List (MatrixOf r)) (phi : MatrixOf r). compared r b c phi (λ null one s. found_map i fs gs b c (unit ∷ lambdas) phi null one.0 one.1 s) in
      let lb = bound (over_identity r 1 unit (take i (differentials_of r c.ext.resolution)) (take i (graphs_of r b.ext.resolution))) (λ lambdas. task Alone names.Phi 0 (work lambdas) >>= ending lambdas) units left x ends in
      let pb = bound (task Alone names.Phi 0 (work lb.value)) (ending lb.value) lb.between left x lb.second in
      let F = map_facts lb.value units lb.between lb.between pb.between pb.value lb.first (task_ends Alone names.Phi 0 (work lb.value) lb.between pb.between pb.value pb.first) in
      compared_right (unit ∷ lb.value) pb.value F pb.between left x pb.second

pub map_right : (r : Ring) (i : ℕ) (fs gs : Ideal r) (units left : ℕ) (x : Found r) → Ends (plan r (ask_map i fs gs) units) x left → RestsOn r.prime r.vars (verdict r x) × Holds r.prime r.vars (verdict r x)
unfolding plan
map_right r i fs gs units left x ends =
    let work = contained_work r fs gs in
    let targets = λ (b : BaseOf r). base_plan r Target i gs >>= mapped r i fs gs b in
    let a0 = bound (task Alone names.Contained 0 work >>= unless r not_contained) (λ u. base_plan r Source i fs >>= targets) units left x ends in
    let a = bound (task Alone names.Contained 0 work) (unless r not_contained) units a0.between a0.value a0.first in
    let none : a.value ≡ None = unless_ends r not_contained a.value a.between a0.between a0.value a.second in
    let contained = contained_is r fs gs units a.between (subst (λ o. Ends (work units) o a.between) none (task_ends Alone names.Contained 0 work units a.between a.value a.first)) in
    let sb = bound (base_plan r Source i fs) targets a0.between left x a0.second in
    let tb = bound (base_plan r Target i gs) (mapped r i fs gs sb.value) sb.between left x sb.second in
    mapped_right r i fs gs sb.value tb.value (base_is r i fs Source a0.between sb.between sb.value sb.first) (base_is r i gs Target sb.between tb.between tb.value tb.first) contained tb.between left x tb.second
