-- A `datum` line begins a block: the first of a certificate, or that of the target of a map.
use Rattle.std.proofs.Common.{◌≡◌, ℕ, ◌+◌, ◌-◌, Bool, true, ◌&&◌, nat_eq, nat_le, List, [], ◌∷◌, length, slice_get, Option, Some, None, option_map, Ok, refl, sym, ap, ap₂, ◌∙◌, subst, subst₂, arith}
use Rattle.std.proofs.lemmas.Bool.{and_parts, eqb-true, false≢true}
use Rattle.fm_words.specs.Parts.{Bytes}
use Rattle.fm_words.specs.Options.{◌>>=◌ as ◌followed_by◌, where_so}
use Rattle.fm_words.specs.Steps.{◌>>=◌, place}
use Rattle.fm_words.specs.Words.{same_bytes}
use Rattle.fm_words.proofs.FirstFaults.{no_fault}
use Rattle.fm_poly.specs.declared.ring.Ring.{Ring}
use Rattle.fm_problem.specs.Problems.{ideal_names}
use Rattle.fm_problem.specs.declared.ideal.Ideal.{Ideal}
use Rattle.fm_problem.specs.declared.problem.Problem.{Problem}
use Rattle.fm_problem.specs.declared.query.Query.{Query}
use Rattle.fm_problem.specs.declared.query.Query as queries
use Rattle.fm_cert.specs.Fields.{Values}
use Rattle.fm_cert.specs.Kinds.{EndKind, end_row}
use Rattle.fm_cert.specs.Kinds as kinds
use Rattle.fm_cert.specs.Lines.{Row}
use Rattle.fm_report.specs.Parts.{Part}
use Rattle.fm_report.specs.Sheets.{Sheet, Block, Answer, new_block, is_about, blocks_of, with_last, say, say_datum}
use Rattle.fm_report.specs.Verdicts.{generators_in}
use Rattle.fm_parts.specs.Replays.{Form, Reference, Value, needs}
use Rattle.fm_parts.specs.Conditions.{Log}
use Rattle.fm_parts.proofs.Results.{needed}
use Rattle.fm_judge.specs.Goals.{Aim, Goal, about, goal_of, target_goal}
use Rattle.fm_judge.specs.Goals as aims
use Rattle.fm_judge.specs.Places.{Place}
use Rattle.fm_judge.specs.Places as places
use Rattle.fm_judge.specs.Judging.{in_certificate, State, said_then, names_ideal, block_at, datum_line, datum_place}
use Rattle.fm_judge.proofs.Options.{none_some, same_some, followed, where_true}
use Rattle.fm_judge.proofs.Stated.{IsFineAim, blocks_before, about_is, IsMapGoal, second_side, first_goal, map_goal}
use Rattle.fm_judge.proofs.Facts.{HasBlock, BehindAim, FactsAt}
use Rattle.fm_judge.proofs.Resolving.{Naming}
use Rattle.fm_judge.proofs.Chains.{Repeating}
use Rattle.fm_judge.proofs.Kept.{Certified, said_so, outcome_at, Outcome}

-- a block for the ideal and the degree of the query is one of the goal's
about_goal : (q : Problem) (z : Query) (kind : EndKind) (v : Values (end_row kind)) (g : Goal) (m j : ℕ) → goal_of q z kind v ≡ Some g → is_about z [] m j ≡ true → generators_in q.ring q.ideals m ≡ Some g.generators
unfolding goal_of
about_goal q z kind v g m j e h = go z kind v e h
  where
    found : (k i : ℕ) (aim : Aim) → about q k i aim ≡ Some g → (nat_eq m k && nat_eq j i) ≡ true → generators_in q.ring q.ideals m ≡ Some g.generators
    found k i aim e h =
        let a = about_is q k i aim g e in
        let same : m ≡ k = eqb-true m k (and_parts (nat_eq m k) (nat_eq j i) h).0 in
        ap (λ o. option_map (λ (x : Ideal). x.generators) o) (ap (slice_get q.ideals) same ∙ a.1) ∙ ap (λ (g : Goal). Some g.generators) a.2

    go : (z : Query) (kind : EndKind) (v : Values (end_row kind)) → goal_of q z kind v ≡ Some g → is_about z [] m j ≡ true → generators_in q.ring q.ideals m ≡ Some g.generators
    go (queries.TheVariants.Member k f) kinds.Member (inside, u) e h = absurd (false≢true h)
    go (queries.TheVariants.Resolution i k) kinds.Ranks (ranks, u) e h = found k i (aims.resolution ranks) (where_true (nat_eq (length ranks) (i + 2)) (about q k i (aims.resolution ranks)) g e).1 h
    go (queries.TheVariants.ExtOf i k) kinds.ExtOf (a, (b, u)) e h = found k i (aims.ext a b) e h
    go (queries.TheVariants.Root i k) kinds.Root (a, (t, u)) e h = found k i (aims.root a t) e h
    go (queries.TheVariants.Zero i k) kinds.Zero (is_zero, (t, u)) e h = found k i (aims.vanishing is_zero t) e h
    go (queries.TheVariants.Class i k e' c) kinds.Class (None, u) e h = found k i (aims.living e' c) e h
    go (queries.TheVariants.Class i k e' c) kinds.Class (Some stage, u) e h = found k i (aims.dying e' c (stage - e')) (where_true (nat_le e' stage) (about q k i (aims.dying e' c (stage - e'))) g e).1 h
    go (queries.TheVariants.Invert i k f) kinds.Invert (power, u) e h = found k i (aims.inverting f power) e h
    go (queries.TheVariants.Support i k) kinds.Support (ideal, u) e h = found k i (aims.support ideal) e h
    go (queries.TheVariants.Map i k t) kinds.Map (x, (y, (o, u))) e h = let a = followed (slice_get q.ideals t) (λ target. about q k i (aims.outgoing target x y o)) g e in found k i (aims.outgoing a.0 x y o) a.2 h
    go z kind v e h = absurd (none_some e)

-- nothing is named in a new block
nothing_named : (r : Ring) (g : Goal) (m i : ℕ) → Naming r g 0 (new_block m i)
unfolding new_block
nothing_named r g m i = record {
  count = refl;
  good = tt;
  first = λ h. absurd (omega (arith, h));
  fits = λ k h. absurd (omega (arith, h));
  told = λ k h l. absurd (omega (arith, h));
  no_lift = refl;
  no_cocycles = refl;
  no_kernels = refl;
  no_morphism = refl;
}

-- where no block stands before, nothing has to be shown of one
nothing_behind : (q : Problem) (g : Goal) (aim : Aim) → blocks_before aim ≡ [] → BehindAim q g aim
nothing_behind q g (aims.incoming source x y o) e = absurd (some_block e)
  where
    some_block : {b : Block} {bs : List Block} → b ∷ bs ≡ [] → ⊥
    some_block e = cc
nothing_behind q g aim e = tt

-- a `datum` line that is said, by its query and the blocks before it
record DatumSaid (s s' : Sheet) (q : Problem) (z : Query) (bs : List Block) (i : ℕ) : Type 0 where
  ideal : ℕ
  is_its : is_about z bs ideal i ≡ true
  says : record s { finished = blocks_of s; block = Some (new_block ideal i) } ≡ s'

datum_said : (s s' : Sheet) (q : Problem) (z : Query) (bs : List Block) (name : Bytes) (i : ℕ) → s.head ≡ Some q → s.asked ≡ Some z → blocks_of s ≡ bs → say_datum s name i ≡ Some s' → DatumSaid s s' q z bs i
datum_said s s' q z bs name i head asked blocks e =
    let a = followed s.head (λ q. ◌followed_by◌ s.asked (λ z. ◌followed_by◌ (place 0 name (ideal_names q)) (λ m. where_so (is_about z (blocks_of s) m i) (Some (record s { finished = blocks_of s; block = Some (new_block m i) }))))) s' e in
    let b = followed s.asked (λ z. ◌followed_by◌ (place 0 name (ideal_names a.0)) (λ m. where_so (is_about z (blocks_of s) m i) (Some (record s { finished = blocks_of s; block = Some (new_block m i) })))) s' a.2 in
    let c = followed (place 0 name (ideal_names a.0)) (λ m. where_so (is_about b.0 (blocks_of s) m i) (Some (record s { finished = blocks_of s; block = Some (new_block m i) }))) s' b.2 in
    let w = where_true (is_about b.0 (blocks_of s) c.0 i) (Some (record s { finished = blocks_of s; block = Some (new_block c.0 i) })) s' c.2 in
    let same_z : b.0 ≡ z = same_some (sym b.1 ∙ asked) in
    record { ideal = c.0; is_its = ap₂ (λ z bs. is_about z bs c.0 i) (sym same_z) (sym blocks) ∙ w.0; says = same_some w.1 }

-- the block that a `datum` line begins
datum_block : (s s' : Sheet) (logs : List Log) (g : Goal) (name : Bytes) (i : ℕ) → Certified s logs g places.datum → i ≡ g.degree → say_datum s name i ≡ Some s' → Certified s' logs g (places.differential 0)
unfolding new_block
datum_block s s' logs g name i C degree e =
    let U = C.under in
    let none = without_block C.q s.identity s.block C.facts in
    let empty : blocks_of s ≡ [] = ap₂ with_last (U.finished_is ∙ none.2) none.0 in
    let D = datum_said s s' C.q C.z [] name i U.head_is U.asked_is empty e in
    let goal_is = first_goal C.q C.z C.a g C.goal_is none.2 in
    subst (λ s'. Certified s' logs g (places.differential 0)) D.says (record {
      q = C.q;
      z = C.z;
      a = C.a;
      goal_is = C.goal_is;
      fine = C.fine;
      sound = C.sound;
      under = record { head_is = U.head_is; asked_is = U.asked_is; answer_is = U.answer_is; finished_is = empty ∙ sym none.2; good = U.good };
      facts = (
        record { degree = degree; generators = about_goal C.q C.z (C.a).kind (C.a).values g D.ideal i goal_is D.is_its; behind = nothing_behind C.q g g.aim none.2 },
        (none.1, omega arith, nothing_named (C.q).ring g D.ideal i),
      );
    })
  where
    without_block : (q : Problem) (ls : List Part) (ob : Option Block) → FactsAt q g ls places.datum ob → (ob ≡ None) × HasBlock g.aim × (blocks_before g.aim ≡ [])
    without_block q ls None w = (refl, w.0, w.1)
    without_block q ls (Some b) w = absurd w

-- what is known on the side of the target of a map, where its block begins
record Arrived (q : Problem) (g : Goal) (b : Block) (ideal : ℕ) : Type 0 where
  fine : IsFineAim g.degree g.aim
  before : blocks_before g.aim ≡ b ∷ []
  has : HasBlock g.aim
  behind : BehindAim q g g.aim
  generators : generators_in q.ring q.ideals ideal ≡ Some g.generators

arrived : (q : Problem) (z : Query) (a : Answer) (g : Goal) (M : IsMapGoal q z a g) (b : Block) (t m i : ℕ) → Repeating q.ring g t b → is_about z (b ∷ []) m i ≡ true → Arrived q (target_goal g b t) b m
arrived q z a g M b t m i R about_it =
    let h = subst (λ z. is_about z (b ∷ []) m i ≡ true) M.question about_it in
    let same : m ≡ M.j = eqb-true m M.j (and_parts (nat_eq m M.j) (nat_eq i M.degree) h).0 in
    let generators : generators_in q.ring q.ideals m ≡ Some (M.target).generators = ap (λ o. option_map (λ (x : Ideal). x.generators) o) (ap (slice_get q.ideals) same ∙ M.target_is) in
    subst (λ g. Repeating q.ring g t b → Arrived q (target_goal g b t) b m) M.goal
    (λ R. record {
      fine = tt;
      before = refl;
      has = tt;
      behind = record { name = (M.source).name; aim = aims.outgoing M.target M.is_zero M.is_one M.onto; repeating = R };
      generators = generators;
    }) R

-- what has been shown of the side of the source, where its chain repeats
abbrev LeavesAt : Problem → Goal → ℕ → Block → Type 0
LeavesAt q g t b = (target : Ideal) × (x : Bool) × (y : Bool) × (o : Option ℕ) × (g.aim ≡ aims.outgoing target x y o) × Repeating q.ring g t b

-- the block of the target that a second `datum` line begins
beyond_block : (s s' : Sheet) (logs : List Log) (g : Goal) (t : ℕ) (name : Bytes) (i : ℕ) → Certified s logs g (places.datum_beyond t) → i ≡ (target_goal g (block_at s.block) t).degree → say_datum s name i ≡ Some s'
    → Certified s' logs (target_goal g (block_at s.block) t) (places.differential 0)
unfolding new_block
beyond_block s s' logs g t name i C degree e =
    let U = C.under in
    let F = on_block C.q s.identity s.block C.facts in
    let b = F.0 in
    let none : blocks_before g.aim ≡ [] = ap blocks_before F.2.4 in
    let goal_is = first_goal C.q C.z C.a g C.goal_is none in
    let M = map_goal C.q C.z (C.a).kind (C.a).values g F.2.0 F.2.1 F.2.2 F.2.3 goal_is F.2.4 in
    let blocks : blocks_of s ≡ b ∷ [] = ap₂ with_last (U.finished_is ∙ none) F.1 in
    let D = datum_said s s' C.q C.z (b ∷ []) name i U.head_is U.asked_is blocks e in
    let A = arrived C.q C.z C.a g M b t D.ideal i F.2.5 D.is_its in
    subst₂ (λ ob s'. Certified s' logs (target_goal g (block_at ob) t) (places.differential 0)) (sym F.1) D.says (record {
      q = C.q;
      z = C.z;
      a = C.a;
      goal_is = second_side g M b t;
      fine = A.fine;
      sound = C.sound;
      under = record { head_is = U.head_is; asked_is = U.asked_is; answer_is = U.answer_is; finished_is = blocks ∙ sym A.before; good = U.good };
      facts = (
        record { degree = degree ∙ ap (λ ob. (target_goal g (block_at ob) t).degree) F.1; generators = A.generators; behind = A.behind },
        (A.has, omega arith, nothing_named (C.q).ring (target_goal g b t) D.ideal i),
      );
    })
  where
    on_block : (q : Problem) (ls : List Part) (ob : Option Block) → FactsAt q g ls (places.datum_beyond t) ob → (b : Block) × (ob ≡ Some b) × LeavesAt q g t b
    on_block q ls None w = absurd w
    on_block q ls (Some b) w = (b, refl, w.1)

-- a `datum` line moves to the goal h, whose block it begins
datum_moves : (s t : State) (g h : Goal) (p : Place) (name : Bytes) (i : ℕ) → ((sheet : Sheet) → i ≡ h.degree → say_datum s.sheet name i ≡ Some sheet → Certified sheet s.logs h (places.differential 0)) → datum_line s h name i ≡ Ok t
    → Outcome s (Row kinds.Datum (name, (i, tt))) t
unfolding say
datum_moves s t g h p name i moves e =
    let l = Row kinds.Datum (name, (i, tt)) in
    let stage = in_certificate h (places.differential 0) in
    let x = needed (names_ideal s.sheet.head name) Reference (λ _. needs (same_bytes name h.name && nat_eq i h.degree) Value >>= λ _. said_then s Value l stage) t e in
    let y = needed (same_bytes name h.name && nat_eq i h.degree) Value (λ _. said_then s Value l stage) t x.1 in
    let d = said_so s t Value l stage y.1 in
    outcome_at s t l d.0 stage d.1 d.2 (moves d.0 (eqb-true i h.degree (and_parts (same_bytes name h.name) (nat_eq i h.degree) y.0).1) d.1) tt

pub datum_outcome : (s t : State) (g : Goal) (p : Place) (name : Bytes) (i : ℕ) → Certified s.sheet s.logs g p → datum_place s g p name i ≡ Ok t → Outcome s (Row kinds.Datum (name, (i, tt))) t
datum_outcome s t g places.datum name i C e = datum_moves s t g g places.datum name i (λ sheet degree said. datum_block s.sheet sheet s.logs g name i C degree said) e
datum_outcome s t g (places.datum_beyond m) name i C e =
    datum_moves s t g (target_goal g (block_at s.sheet.block) m) (places.datum_beyond m) name i (λ sheet degree said. beyond_block s.sheet sheet s.logs g m name i C degree said) e
datum_outcome s t g p name i C e = absurd (no_fault Form t e)
