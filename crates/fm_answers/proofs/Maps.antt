-- The report of an answer on the map that an inclusion induces.
use Rattle.std.proofs.Common.{ℕ, suc, ◌+◌, ◌*◌, ◌≡◌, ◌≤◌, ◌<◌, ◌^◌, List, [], ◌∷◌, ◌++◌, length, Some, option_map, refl, sym, ap, ap₂, ◌∙◌, subst, arith, length-append}
use Rattle.std.proofs.lemmas.List.{length-map}
use Rattle.fm_limit.specs.ResolvedIdeal.{ResolvedIdeal, IsResolved}
use Rattle.fm_limit.specs.Verdicts.{Verdict, induced_map}
use Rattle.fm_poly.specs.Polys.{PolyValue}
use Rattle.fm_graphs.specs.Graphs.{MatrixOf, Inside}
use Rattle.fm_graphs.specs.Trims.{Preimage}
use Rattle.fm_words.specs.Options.{◌>>=◌}
use Rattle.fm_problem.specs.declared.problem.Problem.{Problem}
use Rattle.fm_problem.specs.declared.query.Query as queries
use Rattle.fm_problem.specs.Sound.{IsQueryOf, IsProblem, IsSmallQuery, HasSmallExponents}
use Rattle.fm_cert.specs.Fields.{Values}
use Rattle.fm_cert.specs.Kinds.{end_row}
use Rattle.fm_cert.specs.Kinds as kinds
use Rattle.fm_cert.specs.Naming.{Naming, naming_lines, forms_after, identities, map_naming}
use Rattle.fm_cert.specs.Writable.{AreWritableValues, IsWritableNumber}
use Rattle.fm_report.specs.Parts.{part_values}
use Rattle.fm_report.specs.Sheets.{Block, Answer, new_block}
use Rattle.fm_report.specs.Verdicts.{generators_in}
use Rattle.fm_report.specs.Verdicts as statements
use Rattle.fm_report.proofs.NamingsSaid.{Laid, AllPut, NamesIn, names_said, leads_append, puts_append, identities_put, map_puts, parts_of}
use Rattle.fm_report.proofs.BlocksSaid.{datum_leads}
use Rattle.fm_plan.specs.Results as plan_results
use Rattle.fm_plan.specs.Results.{differentials_of}
use Rattle.fm_plan.specs.Queries.{BaseOf, Onto, onto_at, never_onto, Found, found_map, is_yes, onto_of, verdict}
use Rattle.fm_plan.specs.Sizes.{IsOntoAtMost, HasSizes}
use Rattle.fm_plan.specs.Within.{IsFoundWithin}
use Rattle.fm_answers.specs.Printed.{grid_of, grids_of, base_namings}
use Rattle.fm_answers.specs.Answers.{generators_at, ideal_at, found_report, datum_line, block_of, blocks_of}
use Rattle.fm_answers.proofs.PrintedMatrices.{matrices_mean}
use Rattle.fm_answers.proofs.Namings.{base_block, base_count, base_good, base_put, map_good, identities_count}
use Rattle.fm_answers.proofs.Blocks.{Good, nothing, names_are, body_good, block_resolved, generators_there}
use Rattle.fm_answers.proofs.OneIdeal.{IsRight, held, same_about}

module _ (q : Problem) (sound : IsProblem q) (small : HasSmallExponents q) (k : ℕ) (few : suc k < 2 ^ 64) (most : ℕ) (enough : most < 2 ^ 33) (i m j : ℕ) (degree : i + 2 ≤ most)
    (of : IsQueryOf q (queries.TheVariants.Map i m j)) (low : IsSmallQuery (queries.TheVariants.Map i m j))
    (b c : BaseOf q.ring) (ls : List (MatrixOf q.ring)) (phi : MatrixOf q.ring) (null : Inside q.ring) (fibre : Preimage q.ring) (one : Inside q.ring) (s : Onto q.ring) where
  abbrev z : Rattle.fm_problem.specs.declared.query.Query.Query
  z = queries.TheVariants.Map i m j

  abbrev found : Found q.ring
  found = found_map i (ideal_at q m) (ideal_at q j) b c ls phi null fibre one s

  abbrev answer : Answer
  answer = record { kind = kinds.Map; values = (is_yes q.ring null, (is_yes q.ring one, (onto_of q.ring s, tt))) }

  abbrev source : Block
  source = base_block q.ring m i b

  abbrev target : Block
  target = base_block q.ring j i c

  abbrev first_laid : Laid
  first_laid = record { finished = []; block = Some source; identity = [] }

  abbrev begun_laid : Laid
  begun_laid = record { finished = source ∷ []; block = Some (new_block j i); identity = [] }

  abbrev second_laid : Laid
  second_laid = record { finished = source ∷ []; block = Some target; identity = [] }

  abbrev last_laid : Laid
  last_laid = record { finished = source ∷ []; block = Some target; identity = parts_of (grids_of q.ring ls) }

  abbrev xs : List Naming
  xs = base_namings q.ring b

  abbrev ys : List Naming
  ys = base_namings q.ring c

  abbrev zs : List Naming
  zs = identities 0 (grids_of q.ring ls) ++ map_naming (grid_of q.ring phi) ∷ []

  onto_small : (s : Onto q.ring) → IsOntoAtMost q.ring most s → IsWritableNumber q.ring (onto_of q.ring s)
  onto_small (onto_at first links w before) l = let h = l.1 in omega (arith, h, enough)
  onto_small (never_onto first links w proper) l = tt

  lambdas_put : length ls ≤ most → AllPut q (names_are q sound small k few z of low) sound.bounded.named (suc k) z answer zs second_laid last_laid
  lambdas_put long =
      let h = names_are q sound small k few z of low in
      let l = sound.bounded.named in
      let n = length-map ls (grid_of q.ring) in
      puts_append q h l (suc k) z answer (identities 0 (grids_of q.ring ls)) (map_naming (grid_of q.ring phi) ∷ []) second_laid last_laid last_laid
      (identities_put q h l (suc k) z answer 0 (grids_of q.ring ls) second_laid refl (omega (arith, n, long, enough)))
      (last_laid, map_puts q h l (suc k) z answer [] [] last_laid (grid_of q.ring phi), refl)

  says_map : (I J : ResolvedIdeal q.ring.prime q.ring.vars) (Ls : List (MatrixOf q.ring)) → Verdict q.ring.prime q.ring.vars
  says_map I J Ls = induced_map i I J Ls (is_yes q.ring null) (is_yes q.ring one) (onto_of q.ring s)

  verdict_is : statements.verdict_of q.ring q.ideals z kinds.Map (is_yes q.ring null, (is_yes q.ring one, (onto_of q.ring s, tt))) (source ∷ target ∷ []) (parts_of (grids_of q.ring ls)) ≡ Some (verdict q.ring found)
  unfolding verdict
  verdict_is =
      let r = q.ring in
      let says = λ (fs gs : List PolyValue). induced_map i (statements.resolved r fs source) (statements.resolved r gs target) (part_values r (parts_of (grids_of r ls))) (is_yes r null) (is_yes r one) (onto_of r s) in
      ap₂ (λ o p. o >>= λ fs. option_map (λ gs. says fs gs) p) (generators_there q sound small m of.1) (generators_there q sound small j of.2)
      ∙ ap₂ (λ I J. Some (induced_map i I J (part_values r (parts_of (grids_of r ls))) (is_yes r null) (is_yes r one) (onto_of r s)))
      (block_resolved r (generators_at q m) source b.ext (matrices_mean r (differentials_of r b.ext.resolution)) (matrices_mean r b.ext.lift))
      (block_resolved r (generators_at q j) target c.ext (matrices_mean r (differentials_of r c.ext.resolution)) (matrices_mean r c.ext.lift))
      ∙ ap (λ Ls. Some (induced_map i (plan_results.resolved r (ideal_at q m) b.ext) (plan_results.resolved r (ideal_at q j) c.ext) Ls (is_yes r null) (is_yes r one) (onto_of r s))) (matrices_mean r ls)

  resolved_long : (I : ResolvedIdeal q.ring.prime q.ring.vars) → IsResolved q.ring.prime q.ring.vars i I → length I.lift ≤ most
  resolved_long I is = let n = is.frobenius.count in omega (arith, n, degree)

  pub map_report : IsRight q.ring found → IsFoundWithin q.ring found → HasSizes q.ring most found → Good q sound small k few z of low (found_report q z found)
  unfolding verdict
  map_report right w sizes =
      let r = q.ring in
      let h = names_are q sound small k few z of low in
      let l = sound.bounded.named in
      let long_b = resolved_long (plan_results.resolved r (ideal_at q m) b.ext) right.0.0 in
      let long_c = resolved_long (plan_results.resolved r (ideal_at q j) c.ext) right.0.1 in
      let long_ls : length ls ≤ most = (let n = right.0.2.count in omega (arith, n, degree)) in
      let values : Values (end_row kinds.Map) = (is_yes r null, (is_yes r one, (onto_of r s, tt))) in
      let writable : AreWritableValues r (end_row kinds.Map) values = (tt, (tt, (onto_small s sizes.7, tt))) in
      let cb = base_count r b in
      let db = sizes.0.ext.resolution.count in
      let kb = sizes.0.chain.count in
      let xs_few : length xs ≤ 3 * most + 3 = omega (arith, cb, db, kb, long_b) in
      let cc' = base_count r c in
      let dc = sizes.1.ext.resolution.count in
      let kc = sizes.1.chain.count in
      let ys_few : length ys ≤ 3 * most + 3 = omega (arith, cc', dc, kc, long_c) in
      let ic = identities_count 0 (grids_of r ls) in
      let lc = length-map ls (grid_of r) in
      let ac = length-append (identities 0 (grids_of r ls)) (map_naming (grid_of r phi) ∷ []) in
      let zs_few : length zs ≤ most + 1 = omega (arith, ic, lc, ac, long_ls) in
      let first = names_said q h l (suc k) z answer [] xs (record { finished = []; block = Some (new_block m i); identity = [] }) first_laid tt
      (base_good q h l most enough b w.0 sizes.0) (omega (arith, xs_few, enough)) (base_put q h l most enough (suc k) z answer [] [] m i b sizes.0 long_b) in
      let datum = datum_leads q sound small k few z of low kinds.Map values refl refl writable [] nothing m i tt of.1 (omega (arith, degree, enough)) (same_about m i) in
      let next = datum_leads q sound small k few z of low kinds.Map values refl refl writable first.grids first_laid j i first.leads.good of.2 (omega (arith, degree, enough)) (same_about j i) in
      let first_few = first.few in
      let second' = names_said q h l (suc k) z answer first.grids ys begun_laid second_laid first.leads.good
      (base_good q h l most enough c w.1 sizes.1) (omega (arith, first_few, xs_few, ys_few, enough)) (base_put q h l most enough (suc k) z answer (source ∷ []) [] j i c sizes.1 long_c) in
      let forms = forms_after q.vars xs [] in
      let second : NamesIn q h l (suc k) z answer first.grids (naming_lines q.vars ys forms) (forms_after q.vars ys forms) (length first.grids + length ys) begun_laid second_laid =
      subst (λ fs. NamesIn q h l (suc k) z answer first.grids (naming_lines q.vars ys fs) (forms_after q.vars ys fs) (length first.grids + length ys) begun_laid second_laid) (sym first.forms) second' in
      let second_few = second.few in
      let both = forms_after q.vars ys forms in
      let third' = names_said q h l (suc k) z answer second.grids zs second_laid last_laid second.leads.good
      (map_good q h l most enough ls phi w.2 sizes.2 w.3 sizes.3) (omega (arith, second_few, first_few, xs_few, ys_few, zs_few, enough)) (lambdas_put long_ls) in
      let third : NamesIn q h l (suc k) z answer second.grids (naming_lines q.vars zs both) (forms_after q.vars zs both) (length second.grids + length zs) second_laid last_laid =
      subst (λ fs. NamesIn q h l (suc k) z answer second.grids (naming_lines q.vars zs fs) (forms_after q.vars zs fs) (length second.grids + length zs) second_laid last_laid) (sym second.forms) third' in
      let rest = leads_append q h l (suc k) z answer first.grids second.grids third.grids begun_laid second_laid last_laid (naming_lines q.vars ys forms) (naming_lines q.vars zs both) second.leads third.leads in
      let middle = leads_append q h l (suc k) z answer first.grids first.grids third.grids first_laid begun_laid last_laid (datum_line q j i ∷ []) (naming_lines q.vars ys forms ++ naming_lines q.vars zs both) next rest in
      let front = leads_append q h l (suc k) z answer [] [] first.grids nothing (record { finished = []; block = Some (new_block m i); identity = [] }) first_laid (datum_line q m i ∷ []) (naming_lines q.vars xs []) datum first.leads in
      body_good q sound small k few z of low kinds.Map values refl refl writable (blocks_of q m j i xs ys zs) third.grids last_laid
      (leads_append q h l (suc k) z answer [] first.grids third.grids nothing first_laid last_laid (block_of q m i xs) (datum_line q j i ∷ (naming_lines q.vars ys forms ++ naming_lines q.vars zs both)) front middle)
      (verdict r found) verdict_is (held r found right)
