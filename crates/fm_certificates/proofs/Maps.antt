-- The certificate of an answer on the map that an inclusion induces.
use Rattle.std.proofs.Common.{ℕ, suc, ◌≡◌, ◌<◌, ◌^◌, List, [], ◌∷◌, ◌++◌, length, Some, option_map, refl, sym, ap, ap₂, ◌∙◌, arith}
use Rattle.fm_limit.specs.Verdicts.{induced_map}
use Rattle.fm_poly.specs.declared.ring.Ring.{Ring}
use Rattle.fm_poly.specs.Polys.{PolyValue}
use Rattle.fm_graphs.specs.Graphs.{MatrixOf, Inside}
use Rattle.fm_graphs.specs.Trims.{Preimage}
use Rattle.fm_words.specs.Options.{◌>>=◌}
use Rattle.fm_problem.specs.declared.problem.Problem.{Problem}
use Rattle.fm_problem.specs.declared.query.Query.{Query}
use Rattle.fm_problem.specs.declared.query.Query as queries
use Rattle.fm_problem.specs.Sound.{IsQueryOf, IsProblem, IsSmallQuery, HasSmallExponents}
use Rattle.fm_cert.specs.Fields.{Values}
use Rattle.fm_cert.specs.Kinds.{end_row}
use Rattle.fm_cert.specs.Kinds as kinds
use Rattle.fm_cert.specs.Lines.{Row}
use Rattle.fm_cert.specs.Writable.{AreWritableValues, IsWritableNumber}
use Rattle.fm_report.specs.Parts.{beside, part_values}
use Rattle.fm_report.specs.Sheets.{Block, Answer, new_block}
use Rattle.fm_report.specs.Verdicts as statements
use Rattle.fm_plan.specs.Results as plan_results
use Rattle.fm_plan.specs.Results.{differentials_of}
use Rattle.fm_plan.specs.Queries.{BaseOf, Onto, onto_at, never_onto, Found, found_map, is_yes, onto_of, verdict}
use Rattle.fm_plan.specs.Sizes.{IsOntoAtMost}
use Rattle.fm_plan.specs.Within.{IsFoundWithin}
use Rattle.fm_plan.proofs.Bases.{Based}
use Rattle.fm_plan.proofs.Answers.{Right}
use Rattle.fm_answers.specs.Answers.{generators_at, ideal_at}
use Rattle.fm_answers.proofs.Blocks.{block_resolved, generators_there}
use Rattle.fm_standard.specs.Small.{AreSmallLines}
use Rattle.fm_standard.specs.Writing.{Claim, at, part_claim}
use Rattle.fm_standard.specs.Said.{Laid, nothing, AllPut}
use Rattle.fm_standard.proofs.ClaimsSaid.{puts_append}
use Rattle.fm_standard.proofs.CertificatesSaid.{Good, datum_puts}
use Rattle.fm_certificates.specs.Certificates.{matrix_part, preimage_claim, base_claims, inside_claims, identity_claims, onto_claims, between_claims, found_claims, found_lines}
use Rattle.fm_certificates.specs.Certificates as certificates
use Rattle.fm_certificates.specs.Reports.{certified_answer}
use Rattle.fm_certificates.proofs.Matrices.{parts_mean}
use Rattle.fm_certificates.proofs.Idle.{AreIdle, idle_claim, idle_put, inside_idle, onto_idle}
use Rattle.fm_certificates.proofs.Blocks.{matrix_parts, base_block, base_put, identities_put}
use Rattle.fm_certificates.proofs.OneIdeal.{same_about, found_good, root_held}

-- ---- the claims that compare two bases
module _ (q : Problem) (k : ℕ) (z : Query) (answer : Answer) (b c : BaseOf q.ring) (ls : List (MatrixOf q.ring)) (phi : MatrixOf q.ring) (null : Inside q.ring)
    (fibre : Preimage q.ring) (one : Inside q.ring) (s : Onto q.ring) where
  abbrev r : Ring
  r = q.ring

  abbrev nulls : List Claim
  nulls = part_claim (matrix_part r phi) (λ p. Row kinds.Phi (p, tt)) ∷ inside_claims r c.chain.stable null (λ p. Row kinds.Null (p, tt)) (λ n k by. Row kinds.NonNull (n, (k, (by, tt))))

  abbrev ones : List Claim
  ones =
      preimage_claim r (beside (matrix_part r phi) (matrix_part r c.chain.stable.matrix)) fibre (λ p n x w. Row kinds.Fibre (p, (n, (x, (w, tt)))))
      ∷ inside_claims r b.chain.stable one (λ p. Row kinds.One (p, tt)) (λ n k by. Row kinds.NotOne (n, (k, (by, tt))))

  abbrev ontos : List Claim
  ontos = onto_claims r (matrix_part r c.ext.u) (beside (matrix_part r c.ext.relations.found) (matrix_part r phi)) s

  nulls_idle : AreIdle q k z answer nulls
  nulls_idle = (
    idle_claim q k z answer _ kinds.Phi (λ ns. (at ns 0, tt)) refl,
    inside_idle q k z answer c.chain.stable null _ _ (λ A. idle_claim q k z answer _ kinds.Null (λ ns. (at ns 0, tt)) refl)
        (λ A entries c by. idle_claim q k z answer _ kinds.NonNull (λ ns. (at ns 0, (c, (by, tt)))) refl),
  )

  ones_idle : AreIdle q k z answer ones
  ones_idle = (
    idle_claim q k z answer _ kinds.Fibre (λ ns. (at ns 0, (at ns 1, (at ns 2, (at ns 3, tt))))) refl,
    inside_idle q k z answer b.chain.stable one _ _ (λ A. idle_claim q k z answer _ kinds.One (λ ns. (at ns 0, tt)) refl)
        (λ A entries c by. idle_claim q k z answer _ kinds.NotOne (λ ns. (at ns 0, (c, (by, tt)))) refl),
  )

  between_put : (d : Laid) → d.identity ≡ [] → AllPut q k z answer (between_claims r b c ls phi null fibre one s) d (record d { identity = d.identity ++ matrix_parts r ls })
  between_put d none =
      let e : Laid = record d { identity = d.identity ++ matrix_parts r ls } in
      let lifts = identity_claims r 0 ls in
      puts_append q k z answer ((lifts ++ nulls) ++ ones) ontos d e e
      (puts_append q k z answer (lifts ++ nulls) ones d e e
      (puts_append q k z answer lifts nulls d e e (identities_put q k z answer 0 ls d (sym (ap length none))) (idle_put q k z answer nulls nulls_idle e))
      (idle_put q k z answer ones ones_idle e))
      (idle_put q k z answer ontos (onto_idle q k z answer _ _ s) e)

module _ (q : Problem) (sound : IsProblem q) (small : HasSmallExponents q) (k : ℕ) (few : suc k < 2 ^ 64) (most : ℕ) (enough : most < 2 ^ 33) (i m j : ℕ)
    (of : IsQueryOf q (queries.TheVariants.Map i m j)) (low : IsSmallQuery (queries.TheVariants.Map i m j))
    (b c : BaseOf q.ring) (ls : List (MatrixOf q.ring)) (phi : MatrixOf q.ring) (null : Inside q.ring) (fibre : Preimage q.ring) (one : Inside q.ring) (s : Onto q.ring) where
  abbrev z : Query
  z = queries.TheVariants.Map i m j

  abbrev found : Found q.ring
  found = found_map i (ideal_at q m) (ideal_at q j) b c ls phi null fibre one s

  abbrev values : Values (end_row kinds.Map)
  values = (is_yes q.ring null, (is_yes q.ring one, (onto_of q.ring s, tt)))

  abbrev answer : Answer
  answer = record { kind = kinds.Map; values = values }

  abbrev source : Block
  source = base_block q.ring m i b

  abbrev target : Block
  target = base_block q.ring j i c

  onto_small : (s : Onto q.ring) → IsOntoAtMost q.ring most s → IsWritableNumber q.ring (onto_of q.ring s)
  onto_small (onto_at first links w before) l = let h = l.1 in omega (arith, h, enough)
  onto_small (never_onto first links w proper) l = tt

  abbrev last_laid : Laid
  last_laid = record { finished = source ∷ []; block = Some target; identity = matrix_parts q.ring ls }

  claims_put : AreWritableValues q.ring (end_row kinds.Map) values → Based q.ring i (ideal_at q m) b → Based q.ring i (ideal_at q j) c
      → AllPut q (suc k) z answer (found_claims q z found) nothing last_laid
  claims_put writable B C =
      let between = between_claims q.ring b c ls phi null fibre one s in
      let first_new : Laid = record { finished = []; block = Some (new_block m i); identity = [] } in
      let first : Laid = record { finished = []; block = Some source; identity = [] } in
      let second_new : Laid = record { finished = source ∷ []; block = Some (new_block j i); identity = [] } in
      let second : Laid = record { finished = source ∷ []; block = Some target; identity = [] } in (
        first_new,
        datum_puts q sound small k few z of low kinds.Map values refl refl writable nothing m i of.1 (same_about m i),
        puts_append q (suc k) z answer (base_claims q.ring i b) (certificates.base_block q j i c ++ between) first_new first last_laid
            (base_put q (suc k) z answer [] [] m i b B.count (root_held q sound small k few z of low i m of.1 b B)) (
              second_new,
              datum_puts q sound small k few z of low kinds.Map values refl refl writable first j i of.2 (same_about j i),
              puts_append q (suc k) z answer (base_claims q.ring i c) between second_new second last_laid
                  (base_put q (suc k) z answer (source ∷ []) [] j i c C.count (root_held q sound small k few z of low i j of.2 c C))
                  (between_put q (suc k) z answer b c ls phi null fibre one s second refl),
            ),
      )

  verdict_is : statements.verdict_of q.ring q.ideals z kinds.Map (is_yes q.ring null, (is_yes q.ring one, (onto_of q.ring s, tt))) (source ∷ target ∷ []) (matrix_parts q.ring ls) ≡ Some (verdict q.ring found)
  unfolding verdict
  verdict_is =
      let r = q.ring in
      let says = λ (fs gs : List PolyValue). induced_map i (statements.resolved r fs source) (statements.resolved r gs target) (part_values r (matrix_parts r ls)) (is_yes r null) (is_yes r one) (onto_of r s) in
      ap₂ (λ o p. o >>= λ fs. option_map (λ gs. says fs gs) p) (generators_there q sound small m of.1) (generators_there q sound small j of.2)
      ∙ ap₂ (λ I J. Some (induced_map i I J (part_values r (matrix_parts r ls)) (is_yes r null) (is_yes r one) (onto_of r s)))
      (block_resolved r (generators_at q m) source b.ext (parts_mean r (differentials_of r b.ext.resolution)) (parts_mean r b.ext.lift))
      (block_resolved r (generators_at q j) target c.ext (parts_mean r (differentials_of r c.ext.resolution)) (parts_mean r c.ext.lift))
      ∙ ap (λ Ls. Some (induced_map i (plan_results.resolved r (ideal_at q m) b.ext) (plan_results.resolved r (ideal_at q j) c.ext) Ls (is_yes r null) (is_yes r one) (onto_of r s))) (parts_mean r ls)

  pub map_certified : Based q.ring i (ideal_at q m) b → Based q.ring i (ideal_at q j) c → Right q.ring found → IsFoundWithin q.ring found → IsOntoAtMost q.ring most s → AreSmallLines (found_lines q z found)
      → Good q sound small k few z of low (certified_answer q z found)
  map_certified B C right w sizes lines =
      let writable : AreWritableValues q.ring (end_row kinds.Map) values = (tt, (tt, (onto_small s sizes, tt))) in
      found_good q sound small k few z of low found right w tt lines kinds.Map values refl refl writable last_laid (claims_put writable B C) verdict_is
