-- The verdict that is stated at the end of a certificate is that of its goal.
use Rattle.std.proofs.Common.{◌≡◌, ℕ, ◌+◌, ◌-◌, Bool, nat_eq, nat_le, List, [], ◌∷◌, length, slice_get, Option, Some, None, option_map, refl, sym, ap, ap₂, ◌∙◌, subst, subst₂, arith}
use Rattle.std.proofs.lemmas.Bool.{eqb-true, leb-true}
use Rattle.fm_limit.specs.Verdicts.{Verdict, zero_limit, zero_class, inverting, support, induced_map, member, resolution}
use Rattle.fm_words.specs.Options.{◌>>=◌}
use Rattle.fm_poly.specs.Polys.{PolyValue, meaning}
use Rattle.fm_poly.specs.declared.ring.Ring.{Ring}
use Rattle.fm_problem.specs.declared.ideal.Ideal.{Ideal}
use Rattle.fm_problem.specs.declared.problem.Problem.{Problem}
use Rattle.fm_problem.specs.declared.query.Query.{Query}
use Rattle.fm_problem.specs.declared.query.Query as queries
use Rattle.fm_cert.specs.Fields.{Values}
use Rattle.fm_cert.specs.Kinds.{EndKind, end_row}
use Rattle.fm_cert.specs.Kinds as kinds
use Rattle.fm_report.specs.Parts.{Part, meant, part_values}
use Rattle.fm_report.specs.Sheets.{Block, Answer, with_last}
use Rattle.fm_report.specs.Verdicts.{resolved, root_of, ext_of, of_ideal, verdict_of}
use Rattle.fm_judge.specs.Goals.{Aim, Goal, about, goal_of, target_goal}
use Rattle.fm_judge.specs.Goals as aims
use Rattle.fm_judge.proofs.Options.{none_some, followed, mapped, where_true}
use Rattle.fm_judge.proofs.Verdicts.{IsRight}

-- as many ranks as matrices ask for
abbrev pub IsFineAim : ℕ → Aim → Type 0
IsFineAim i (aims.resolution ranks) = length ranks ≡ i + 2
IsFineAim i aim = Unit {0}

-- the blocks that stand before that of the goal: on the side of the target of a map, the block of the source
abbrev pub blocks_before : Aim → List Block
blocks_before (aims.incoming source is_zero is_one onto) = source.block ∷ []
blocks_before aim = []

-- ---- the verdict of a goal
module _ (r : Ring) where
  -- what is stated of the block at hand
  abbrev pub stated_of : Goal → List Part → Aim → Option Block → Option (Verdict r.prime r.vars)
  stated_of g ls (aims.membership f inside) ob = Some (member (meant r g.generators) (meaning r f.terms) inside)
  stated_of g ls (aims.resolution ranks) (Some b) = Some (resolution (meant r g.generators) g.degree (part_values r b.differentials) ranks)
  stated_of g ls (aims.ext m n) (Some b) = Some (ext_of r g.degree g.generators b m n)
  stated_of g ls (aims.root m t) (Some b) = Some (root_of r g.degree g.generators b m t)
  stated_of g ls (aims.vanishing is_zero t) (Some b) = Some (zero_limit g.degree (resolved r g.generators b) is_zero t)
  stated_of g ls (aims.dying e z m) (Some b) = Some (zero_class g.degree (resolved r g.generators b) e (meant r z) (Some (e + m)))
  stated_of g ls (aims.living e z) (Some b) = Some (zero_class g.degree (resolved r g.generators b) e (meant r z) None)
  stated_of g ls (aims.inverting f power) (Some b) = Some (inverting g.degree (resolved r g.generators b) (meaning r f.terms) power)
  stated_of g ls (aims.support ideal) (Some b) = Some (support g.degree (resolved r g.generators b) (meant r ideal))
  stated_of g ls (aims.incoming source is_zero is_one onto) (Some b) =
      Some (induced_map g.degree (resolved r source.generators source.block) (resolved r g.generators b) (part_values r ls) is_zero is_one onto)
  stated_of g ls aim ob = None

  -- the verdict is there, and it holds on what it rests on
  abbrev pub IsShown : Option (Verdict r.prime r.vars) → Type 0
  IsShown o = (v : Verdict r.prime r.vars) × (o ≡ Some v) × IsRight r v

module _ (q : Problem) where
  abbrev r : Ring
  r = q.ring

  -- the goal that an answer has, as it is put together
  abbrev made : Ideal → ℕ → Aim → Goal
  made a i aim = record { name = a.name; generators = a.generators; degree = i; aim = aim }

  pub about_is : (k i : ℕ) (aim : Aim) (g : Goal) → about q k i aim ≡ Some g → (a : Ideal) × (slice_get q.ideals k ≡ Some a) × (made a i aim ≡ g)
  about_is k i aim g e = mapped (λ (a : Ideal). made a i aim) (slice_get q.ideals k) g e

  of_block : (k : ℕ) (a : Ideal) (ob : Option Block) (say : List PolyValue → Block → Verdict r.prime r.vars) → slice_get q.ideals k ≡ Some a → of_ideal r q.ideals k (with_last [] ob) say ≡ option_map (say a.generators) ob
  of_block k a None say e = refl
  of_block k a (Some b) say e = ap (λ o. option_map (λ fs. say fs b) (option_map (λ (x : Ideal). x.generators) o)) e

  abbrev IsVerdict : Query → (kind : EndKind) → Values (end_row kind) → Goal → Type 0
  IsVerdict z kind values g = (ls : List Part) (ob : Option Block) → verdict_of r q.ideals z kind values (with_last (blocks_before g.aim) ob) ls ≡ stated_of r g ls g.aim ob

  -- an answer on one ideal, by what it says of a block
  one_ideal : (k i : ℕ) (aim : Aim) (g : Goal) (ls : List Part) (say : List PolyValue → Block → Verdict r.prime r.vars) → blocks_before aim ≡ [] → about q k i aim ≡ Some g
      → ((a : Ideal) (ob : Option Block) → option_map (say a.generators) ob ≡ stated_of r (made a i aim) ls aim ob) → (ob : Option Block) → of_ideal r q.ideals k (with_last (blocks_before g.aim) ob) say ≡ stated_of r g ls g.aim ob
  one_ideal k i aim g ls say none e h ob = let a = about_is k i aim g e in
      subst (λ g. of_ideal r q.ideals k (with_last (blocks_before g.aim) ob) say ≡ stated_of r g ls g.aim ob) a.2
      (ap (λ bs. of_ideal r q.ideals k (with_last bs ob) say) none ∙ of_block k a.0 ob say a.1 ∙ h a.0 ob)

  -- the verdict that is stated at the end is that of the goal
  pub verdict_is : (z : Query) (kind : EndKind) (values : Values (end_row kind)) (g : Goal) → goal_of q z kind values ≡ Some g → IsVerdict z kind values g
  unfolding goal_of
  verdict_is (queries.TheVariants.Member k f) kinds.Member (inside, u) g e ls ob = let a = about_is k 0 (aims.membership f inside) g e in
      subst (λ g. verdict_of r q.ideals (queries.TheVariants.Member k f) kinds.Member (inside, u) (with_last (blocks_before g.aim) ob) ls ≡ stated_of r g ls g.aim ob) a.2
      (ap (λ o. option_map (λ fs. member (meant r fs) (meaning r f.terms) inside) (option_map (λ (x : Ideal). x.generators) o)) a.1)
  verdict_is (queries.TheVariants.Resolution i k) kinds.Ranks (ranks, u) g e ls ob =
      one_ideal k i (aims.resolution ranks) g ls (λ fs b. resolution (meant r fs) i (part_values r b.differentials) ranks) refl (where_true (nat_eq (length ranks) (i + 2)) (about q k i (aims.resolution ranks)) g e).1 of_it ob
    where
      of_it : (a : Ideal) (ob : Option Block) → option_map (λ (b : Block). resolution (meant r a.generators) i (part_values r b.differentials) ranks) ob ≡ stated_of r (made a i (aims.resolution ranks)) ls (aims.resolution ranks) ob
      of_it a None = refl
      of_it a (Some b) = refl
  verdict_is (queries.TheVariants.ExtOf i k) kinds.ExtOf (m, (n, u)) g e ls ob = one_ideal k i (aims.ext m n) g ls (λ fs b. ext_of r i fs b m n) refl e of_it ob
    where
      of_it : (a : Ideal) (ob : Option Block) → option_map (λ (b : Block). ext_of r i a.generators b m n) ob ≡ stated_of r (made a i (aims.ext m n)) ls (aims.ext m n) ob
      of_it a None = refl
      of_it a (Some b) = refl
  verdict_is (queries.TheVariants.Root i k) kinds.Root (m, (t, u)) g e ls ob = one_ideal k i (aims.root m t) g ls (λ fs b. root_of r i fs b m t) refl e of_it ob
    where
      of_it : (a : Ideal) (ob : Option Block) → option_map (λ (b : Block). root_of r i a.generators b m t) ob ≡ stated_of r (made a i (aims.root m t)) ls (aims.root m t) ob
      of_it a None = refl
      of_it a (Some b) = refl
  verdict_is (queries.TheVariants.Zero i k) kinds.Zero (is_zero, (t, u)) g e ls ob = one_ideal k i (aims.vanishing is_zero t) g ls (λ fs b. zero_limit i (resolved r fs b) is_zero t) refl e of_it ob
    where
      of_it : (a : Ideal) (ob : Option Block) → option_map (λ (b : Block). zero_limit i (resolved r a.generators b) is_zero t) ob ≡ stated_of r (made a i (aims.vanishing is_zero t)) ls (aims.vanishing is_zero t) ob
      of_it a None = refl
      of_it a (Some b) = refl
  verdict_is (queries.TheVariants.Class i k e' z) kinds.Class (None, u) g e ls ob = one_ideal k i (aims.living e' z) g ls (λ fs b. zero_class i (resolved r fs b) e' (meant r z) None) refl e of_it ob
    where
      of_it : (a : Ideal) (ob : Option Block) → option_map (λ (b : Block). zero_class i (resolved r a.generators b) e' (meant r z) None) ob ≡ stated_of r (made a i (aims.living e' z)) ls (aims.living e' z) ob
      of_it a None = refl
      of_it a (Some b) = refl
  verdict_is (queries.TheVariants.Class i k e' z) kinds.Class (Some stage, u) g e ls ob =
      let t = where_true (nat_le e' stage) (about q k i (aims.dying e' z (stage - e'))) g e in
      let low = leb-true e' stage t.0 in
      one_ideal k i (aims.dying e' z (stage - e')) g ls (λ fs b. zero_class i (resolved r fs b) e' (meant r z) (Some stage)) refl t.1 (of_it (let s : stage ≡ e' + (stage - e') = omega (arith, low) in s)) ob
    where
      of_it : stage ≡ e' + (stage - e') → (a : Ideal) (ob : Option Block)
          → option_map (λ (b : Block). zero_class i (resolved r a.generators b) e' (meant r z) (Some stage)) ob ≡ stated_of r (made a i (aims.dying e' z (stage - e'))) ls (aims.dying e' z (stage - e')) ob
      of_it s a None = refl
      of_it s a (Some b) = ap (λ x. Some (zero_class i (resolved r a.generators b) e' (meant r z) (Some x))) s
  verdict_is (queries.TheVariants.Invert i k f) kinds.Invert (power, u) g e ls ob = one_ideal k i (aims.inverting f power) g ls (λ fs b. inverting i (resolved r fs b) (meaning r f.terms) power) refl e of_it ob
    where
      of_it : (a : Ideal) (ob : Option Block) → option_map (λ (b : Block). inverting i (resolved r a.generators b) (meaning r f.terms) power) ob ≡ stated_of r (made a i (aims.inverting f power)) ls (aims.inverting f power) ob
      of_it a None = refl
      of_it a (Some b) = refl
  verdict_is (queries.TheVariants.Support i k) kinds.Support (ideal, u) g e ls ob = one_ideal k i (aims.support ideal) g ls (λ fs b. support i (resolved r fs b) (meant r ideal)) refl e of_it ob
    where
      of_it : (a : Ideal) (ob : Option Block) → option_map (λ (b : Block). support i (resolved r a.generators b) (meant r ideal)) ob ≡ stated_of r (made a i (aims.support ideal)) ls (aims.support ideal) ob
      of_it a None = refl
      of_it a (Some b) = refl
  verdict_is (queries.TheVariants.Map i k j) kinds.Map (x, (y, (o, u))) g e ls ob =
      let t = followed (slice_get q.ideals j) (λ target. about q k i (aims.outgoing target x y o)) g e in
      let a = about_is k i (aims.outgoing t.0 x y o) g t.2 in
      subst (λ g. verdict_of r q.ideals (queries.TheVariants.Map i k j) kinds.Map (x, (y, (o, u))) (with_last (blocks_before g.aim) ob) ls ≡ stated_of r g ls g.aim ob) a.2 (nothing t.0 a.0 ob)
    where
      nothing : (target a : Ideal) (ob : Option Block) → verdict_of r q.ideals (queries.TheVariants.Map i k j) kinds.Map (x, (y, (o, u))) (with_last [] ob) ls ≡ stated_of r (made a i (aims.outgoing target x y o)) ls (aims.outgoing target x y o) ob
      nothing target a None = refl
      nothing target a (Some b) = refl
  verdict_is z kind values g e ls ob = absurd (none_some e)

  -- ---- the two sides of a map
  -- an answer on a map, with the goal on the side of the source
  pub record IsMapGoal (z : Query) (a : Answer) (g : Goal) : Type 0 where
    pub degree : ℕ
    pub k : ℕ
    pub j : ℕ
    pub is_zero : Bool
    pub is_one : Bool
    pub onto : Option ℕ
    pub source : Ideal
    pub target : Ideal
    pub question : z ≡ queries.TheVariants.Map degree k j
    pub answer : a ≡ record { kind = kinds.Map; values = (is_zero, (is_one, (onto, tt))) }
    pub source_is : slice_get q.ideals k ≡ Some source
    pub target_is : slice_get q.ideals j ≡ Some target
    pub goal : made source degree (aims.outgoing target is_zero is_one onto) ≡ g

  -- a goal of an answer: the one that it has first, or that on the other side of a map
  pub data IsGoal (z : Query) (a : Answer) : Goal → Type 0 where
    first_side : (g : Goal) → goal_of q z a.kind a.values ≡ Some g → IsGoal z a g
    second_side : (g : Goal) → IsMapGoal z a g → (b : Block) (t : ℕ) → IsGoal z a (target_goal g b t)

  -- the verdict on a map, of both blocks
  of_map : (i k j : ℕ) (x y : Bool) (o : Option ℕ) (source target : Ideal) (b : Block) (ls : List Part) → slice_get q.ideals k ≡ Some source → slice_get q.ideals j ≡ Some target → (oc : Option Block)
      → verdict_of r q.ideals (queries.TheVariants.Map i k j) kinds.Map (x, (y, (o, tt))) (with_last (b ∷ []) oc) ls
      ≡ option_map (λ (c : Block). induced_map i (resolved r source.generators b) (resolved r target.generators c) (part_values r ls) x y o) oc
  of_map i k j x y o source target b ls e e' None = refl
  of_map i k j x y o source target b ls e e' (Some c) =
      ap₂ (λ (u v : Option Ideal). ◌>>=◌ (option_map (λ (a : Ideal). a.generators) u) (λ fs. option_map (λ gs. induced_map i (resolved r fs b) (resolved r gs c) (part_values r ls) x y o) (option_map (λ (a : Ideal). a.generators) v))) e e'

  second_verdict : (z : Query) (a : Answer) (g : Goal) → IsMapGoal z a g → (b : Block) (t : ℕ) (ls : List Part) (ob : Option Block)
      → verdict_of r q.ideals z a.kind a.values (with_last (blocks_before (target_goal g b t).aim) ob) ls ≡ stated_of r (target_goal g b t) ls (target_goal g b t).aim ob
  second_verdict z a g M b t ls ob =
      subst (λ g. verdict_of r q.ideals z a.kind a.values (with_last (blocks_before (target_goal g b t).aim) ob) ls ≡ stated_of r (target_goal g b t) ls (target_goal g b t).aim ob) M.goal
      (subst₂ (λ (z : Query) (a : Answer). verdict_of r q.ideals z a.kind a.values (with_last (b ∷ []) ob) ls ≡ stated_of r (target_goal (made M.source M.degree (aims.outgoing M.target M.is_zero M.is_one M.onto)) b t) ls (target_goal (made M.source M.degree (aims.outgoing M.target M.is_zero M.is_one M.onto)) b t).aim ob) (sym M.question) (sym M.answer)
      (of_map M.degree M.k M.j M.is_zero M.is_one M.onto M.source M.target b ls M.source_is M.target_is ob ∙ said ob))
    where
      said : (ob : Option Block) → option_map (λ (c : Block). induced_map M.degree (resolved r (M.source).generators b) (resolved r (M.target).generators c) (part_values r ls) M.is_zero M.is_one M.onto) ob
          ≡ stated_of r (target_goal (made M.source M.degree (aims.outgoing M.target M.is_zero M.is_one M.onto)) b t) ls (target_goal (made M.source M.degree (aims.outgoing M.target M.is_zero M.is_one M.onto)) b t).aim ob
      said None = refl
      said (Some c) = refl

  pub goal_verdict : (z : Query) (a : Answer) (g : Goal) → IsGoal z a g → IsVerdict z a.kind a.values g
  goal_verdict z a g (first_side g' e) = verdict_is z a.kind a.values g e
  goal_verdict z a g (second_side h M b t) = second_verdict z a h M b t

  -- a goal before which no block stands is the one that comes first
  pub first_goal : (z : Query) (a : Answer) (g : Goal) → IsGoal z a g → blocks_before g.aim ≡ [] → goal_of q z a.kind a.values ≡ Some g
  first_goal z a g (first_side g' e) none = e
  first_goal z a g (second_side h M b t) none = absurd (some_block (ap (λ (x : Goal). blocks_before (target_goal x b t).aim) M.goal ∙ none))
    where
      some_block : {x : Block} {xs : List Block} → x ∷ xs ≡ [] → ⊥
      some_block e = cc

  -- an answer with such a goal is one on a map
  pub map_goal : (z : Query) (kind : EndKind) (values : Values (end_row kind)) (g : Goal) (target : Ideal) (x y : Bool) (o : Option ℕ) → goal_of q z kind values ≡ Some g → g.aim ≡ aims.outgoing target x y o → IsMapGoal z (record { kind = kind; values = values }) g
  unfolding goal_of
  map_goal (queries.TheVariants.Map i k j) kinds.Map (x', (y', (o', u))) g target x y o e h =
      let t = followed (slice_get q.ideals j) (λ target. about q k i (aims.outgoing target x' y' o')) g e in
      let a = about_is k i (aims.outgoing t.0 x' y' o') g t.2 in record {
        degree = i;
        k = k;
        j = j;
        is_zero = x';
        is_one = y';
        onto = o';
        source = a.0;
        target = t.0;
        question = refl;
        answer = refl;
        source_is = a.1;
        target_is = t.1;
        goal = a.2;
      }
  map_goal (queries.TheVariants.Member k f) kinds.Member (inside, u) g target x y o e h = absurd (other (sym (ap (λ (g : Goal). g.aim) (about_is k 0 (aims.membership f inside) g e).2 ∙ h)))
    where
      other : aims.outgoing target x y o ≡ aims.membership f inside → ⊥
      other e = cc
  map_goal (queries.TheVariants.Resolution i k) kinds.Ranks (ranks, u) g target x y o e h =
      absurd (other (sym (ap (λ (g : Goal). g.aim) (about_is k i (aims.resolution ranks) g (where_true (nat_eq (length ranks) (i + 2)) (about q k i (aims.resolution ranks)) g e).1).2 ∙ h)))
    where
      other : aims.outgoing target x y o ≡ aims.resolution ranks → ⊥
      other e = cc
  map_goal (queries.TheVariants.ExtOf i k) kinds.ExtOf (m, (n, u)) g target x y o e h = absurd (other (sym (ap (λ (g : Goal). g.aim) (about_is k i (aims.ext m n) g e).2 ∙ h)))
    where
      other : aims.outgoing target x y o ≡ aims.ext m n → ⊥
      other e = cc
  map_goal (queries.TheVariants.Root i k) kinds.Root (m, (t, u)) g target x y o e h = absurd (other (sym (ap (λ (g : Goal). g.aim) (about_is k i (aims.root m t) g e).2 ∙ h)))
    where
      other : aims.outgoing target x y o ≡ aims.root m t → ⊥
      other e = cc
  map_goal (queries.TheVariants.Zero i k) kinds.Zero (is_zero, (t, u)) g target x y o e h = absurd (other (sym (ap (λ (g : Goal). g.aim) (about_is k i (aims.vanishing is_zero t) g e).2 ∙ h)))
    where
      other : aims.outgoing target x y o ≡ aims.vanishing is_zero t → ⊥
      other e = cc
  map_goal (queries.TheVariants.Class i k e' z) kinds.Class (None, u) g target x y o e h = absurd (other (sym (ap (λ (g : Goal). g.aim) (about_is k i (aims.living e' z) g e).2 ∙ h)))
    where
      other : aims.outgoing target x y o ≡ aims.living e' z → ⊥
      other e = cc
  map_goal (queries.TheVariants.Class i k e' z) kinds.Class (Some stage, u) g target x y o e h =
      absurd (other (sym (ap (λ (g : Goal). g.aim) (about_is k i (aims.dying e' z (stage - e')) g (where_true (nat_le e' stage) (about q k i (aims.dying e' z (stage - e'))) g e).1).2 ∙ h)))
    where
      other : aims.outgoing target x y o ≡ aims.dying e' z (stage - e') → ⊥
      other e = cc
  map_goal (queries.TheVariants.Invert i k f) kinds.Invert (power, u) g target x y o e h = absurd (other (sym (ap (λ (g : Goal). g.aim) (about_is k i (aims.inverting f power) g e).2 ∙ h)))
    where
      other : aims.outgoing target x y o ≡ aims.inverting f power → ⊥
      other e = cc
  map_goal (queries.TheVariants.Support i k) kinds.Support (ideal, u) g target x y o e h = absurd (other (sym (ap (λ (g : Goal). g.aim) (about_is k i (aims.support ideal) g e).2 ∙ h)))
    where
      other : aims.outgoing target x y o ≡ aims.support ideal → ⊥
      other e = cc
  map_goal z kind values g target x y o e h = absurd (none_some e)

  -- an answer asks for as many ranks as there are, and no block stands before that of its goal
  abbrev pub IsFirst : Goal → Type 0
  IsFirst g = IsFineAim g.degree g.aim × (blocks_before g.aim ≡ [])

  pub first_is : (z : Query) (kind : EndKind) (values : Values (end_row kind)) (g : Goal) → goal_of q z kind values ≡ Some g → IsFirst g
  unfolding goal_of
  first_is (queries.TheVariants.Member k f) kinds.Member (inside, u) g e = let a = about_is k 0 (aims.membership f inside) g e in subst IsFirst a.2 (tt, refl)
  first_is (queries.TheVariants.Resolution i k) kinds.Ranks (ranks, u) g e =
      let t = where_true (nat_eq (length ranks) (i + 2)) (about q k i (aims.resolution ranks)) g e in
      let a = about_is k i (aims.resolution ranks) g t.1 in subst IsFirst a.2 (eqb-true (length ranks) (i + 2) t.0, refl)
  first_is (queries.TheVariants.ExtOf i k) kinds.ExtOf (m, (n, u)) g e = let a = about_is k i (aims.ext m n) g e in subst IsFirst a.2 (tt, refl)
  first_is (queries.TheVariants.Root i k) kinds.Root (m, (t, u)) g e = let a = about_is k i (aims.root m t) g e in subst IsFirst a.2 (tt, refl)
  first_is (queries.TheVariants.Zero i k) kinds.Zero (is_zero, (t, u)) g e = let a = about_is k i (aims.vanishing is_zero t) g e in subst IsFirst a.2 (tt, refl)
  first_is (queries.TheVariants.Class i k e' z) kinds.Class (None, u) g e = let a = about_is k i (aims.living e' z) g e in subst IsFirst a.2 (tt, refl)
  first_is (queries.TheVariants.Class i k e' z) kinds.Class (Some stage, u) g e =
      let t = where_true (nat_le e' stage) (about q k i (aims.dying e' z (stage - e'))) g e in
      let a = about_is k i (aims.dying e' z (stage - e')) g t.1 in subst IsFirst a.2 (tt, refl)
  first_is (queries.TheVariants.Invert i k f) kinds.Invert (power, u) g e = let a = about_is k i (aims.inverting f power) g e in subst IsFirst a.2 (tt, refl)
  first_is (queries.TheVariants.Support i k) kinds.Support (ideal, u) g e = let a = about_is k i (aims.support ideal) g e in subst IsFirst a.2 (tt, refl)
  first_is (queries.TheVariants.Map i k j) kinds.Map (x, (y, (o, u))) g e =
      let t = followed (slice_get q.ideals j) (λ target. about q k i (aims.outgoing target x y o)) g e in
      let a = about_is k i (aims.outgoing t.0 x y o) g t.2 in subst IsFirst a.2 (tt, refl)
  first_is z kind values g e = absurd (none_some e)
