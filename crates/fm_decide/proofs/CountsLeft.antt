-- The queries that are counted, one after another.
use Rattle.std.proofs.Common.{◌≡◌, ◌+◌, ◌≤◌, ℕ, Bool, true, false, cond, List, [], ◌∷◌, All, count_by, length, refl, sym, ap, subst, ◌∙◌, arith}
use Rattle.std.proofs.lemmas.List.{length-map}
use Rattle.std.proofs.lemmas.List.Elements.{All-tail}
use Rattle.std.proofs.lemmas.List.Sums.{count_by-le-length, sum_by-cons}
use Rattle.std.specs.Int.{from_bool}
use Rattle.fm_problem.specs.declared.problem.Problem.{Problem}
use Rattle.fm_problem.specs.declared.query.Query.{Query}
use Rattle.fm_problem.specs.Sound.{IsProblem, IsQueryOf}
use Rattle.fm_cert.specs.Ends.{end_kind, end_values}
use Rattle.fm_report.specs.Reports.{QueryReport}
use Rattle.fm_decide.specs.declared.counts.Counts.{Counts}
use Rattle.fm_decide.specs.declared.ended.Answer.{Answer}
use Rattle.fm_decide.specs.Given.{IsAnswerOf, report_with}
use Rattle.fm_answers.specs.Answers.{is_unanswered}
use Rattle.fm_certificates.specs.Reports.{certified_report, certified_reports}
use Rattle.fm_decide.specs.Counts.{says_yes, says_no, yes_count, no_count, unanswered_count, counts_of}

module _ (units : ℕ) (q : Problem) where
  -- these counts and those of the queries that are left make the whole
  pub record IsCountLeft (c : Counts) (left : List Query) : Type 0 where
    pub yes : c.yes + yes_count (certified_reports units q left) ≡ yes_count (certified_reports units q q.queries)
    pub no : c.no + no_count (certified_reports units q left) ≡ no_count (certified_reports units q q.queries)
    pub unanswered : c.unanswered + unanswered_count (certified_reports units q left) ≡ unanswered_count (certified_reports units q q.queries)
    pub asked : All (IsQueryOf q) left

  -- the counts of one more report
  module _ (p : QueryReport → Bool) where
    count_more : (x : QueryReport) (xs : List QueryReport) → count_by p (x ∷ xs) ≡ from_bool (p x) + count_by p xs
    count_more x xs = sum_by-cons (λ y. cond (p y) 1 0) x xs ∙ ap (λ n. n + count_by p xs) (by_bool (p x))
      where
        by_bool : (b : Bool) → cond b 1 0 ≡ from_bool b
        by_bool true = refl
        by_bool false = refl

    counted : (left bs whole : List QueryReport) (b : QueryReport) (n m : ℕ) → left ≡ b ∷ bs → m ≡ from_bool (p b) → n + count_by p left ≡ count_by p whole
        → n + m + count_by p bs ≡ count_by p whole
    counted left bs whole b n m cut is h =
        let more : count_by p left ≡ from_bool (p b) + count_by p bs = ap (count_by p) cut ∙ count_more b bs in omega (arith, more, is, h)

  -- one more query is counted
  pub one_more : (z : Query) (rest left : List Query) (a : Answer) (c : Counts) (k l m : ℕ) → left ≡ z ∷ rest
      → IsAnswerOf q z a (certified_report units q z) → k ≡ from_bool (says_yes (end_kind a.end) (end_values a.end))
      → l ≡ from_bool (says_no (end_kind a.end) (end_values a.end)) → m ≡ from_bool (is_unanswered (end_kind a.end))
      → IsCountLeft c left → IsCountLeft (record { yes = c.yes + k; no = c.no + l; unanswered = c.unanswered + m }) rest
  one_more z rest left a c k l m e g y n u h =
      let b : QueryReport = report_with z a (certified_report units q z).lines in
      let cut : certified_reports units q left ≡ b ∷ certified_reports units q rest = ap (certified_reports units q) e ∙ ap (λ x. x ∷ certified_reports units q rest) (sym g.report) in
      record {
        yes = counted (λ x. says_yes x.kind x.values) (certified_reports units q left) (certified_reports units q rest) (certified_reports units q q.queries) b c.yes k cut y h.yes;
        no = counted (λ x. says_no x.kind x.values) (certified_reports units q left) (certified_reports units q rest) (certified_reports units q q.queries) b c.no l cut n h.no;
        unanswered = counted (λ x. is_unanswered x.kind) (certified_reports units q left) (certified_reports units q rest) (certified_reports units q q.queries) b c.unanswered m cut u h.unanswered;
        asked = All-tail (IsQueryOf q) z rest (subst (All (IsQueryOf q)) e h.asked);
      }

  -- no query is left
  none_left : (p : QueryReport → Bool) (bs : List QueryReport) (n whole : ℕ) → length bs ≡ 0 → n + count_by p bs ≡ whole → n ≡ whole
  none_left p [] n whole e h = omega (arith, h)
  none_left p (b ∷ bs) n whole e h = absurd (omega (arith, e))

  pub all_counted : (left : List Query) (c : Counts) → length left ≡ 0 → IsCountLeft c left → c ≡ counts_of (certified_reports units q q.queries)
  all_counted left c none h =
      let empty : length (certified_reports units q left) ≡ 0 = length-map left (certified_report units q) ∙ none in
      same c (none_left _ (certified_reports units q left) c.yes _ empty h.yes) (none_left _ (certified_reports units q left) c.no _ empty h.no)
      (none_left _ (certified_reports units q left) c.unanswered _ empty h.unanswered)
    where
      same : (c : Counts) → c.yes ≡ yes_count (certified_reports units q q.queries) → c.no ≡ no_count (certified_reports units q q.queries)
          → c.unanswered ≡ unanswered_count (certified_reports units q q.queries) → c ≡ counts_of (certified_reports units q q.queries)
      same c i j k = rw (sym i, sym j, sym k) refl

  -- no count passes the number of queries
  pub count_fits : (p : QueryReport → Bool) (left : List Query) (n : ℕ) → IsProblem q → n + count_by p (certified_reports units q left) ≡ count_by p (certified_reports units q q.queries) → n ≤ 1000
  count_fits p left n sound h =
      let few = sound.few_queries in
      let most = count_by-le-length p (certified_reports units q q.queries) in
      let long : length (certified_reports units q q.queries) ≡ length q.queries = length-map q.queries (certified_report units q) in
      omega (arith, few, most, long, h)
