-- What the claims of the lines of a base show, where they hold, in each place.
use Rattle.std.proofs.Common.{◌≡◌, ℕ, zero, suc, ◌-◌, ◌<◌, ◌≤◌, Bool, true, false, ◌&&◌, nat_lt, nat_eq, nat_le, if◌then◌else◌, List, [], ◌∷◌, ◌++◌, length, Option, Some, None, option_map, refl, sym, ap, ◌∙◌, subst, arith}
use Rattle.std.proofs.lemmas.Bool.{and_parts, ltb-true, leb-true}
use Rattle.fm_words.specs.Options.{◌>>=◌, where_so}
use Rattle.fm_limit.specs.ResolvedIdeal.{rank}
use Rattle.fm_poly.specs.declared.ring.Ring.{Ring}
use Rattle.fm_graphs.specs.Graphs.{MatrixOf}
use Rattle.fm_problem.specs.declared.problem.Problem.{Problem}
use Rattle.fm_report.specs.Parts.{Part, flip, twist, times}
use Rattle.fm_report.specs.Sheets.{Block, numbered, add_differential, add_lift, add_cocycles, add_kernel, add_morphism}
use Rattle.fm_parts.specs.Shapes.{rows_of, columns_of, fits}
use Rattle.fm_parts.specs.Replays.{are_numbers}
use Rattle.fm_parts.specs.Conditions.{Log, Condition, equal, follows, kernel, preimage, outside}
use Rattle.fm_parts.specs.Sound.{IsSoundLog}
use Rattle.fm_parts.specs.Meanings.{AllSay, HaveSoundLogs}
use Rattle.fm_judge.specs.Goals.{Goal, told_rank, told_generators, told_relations, told_moves}
use Rattle.fm_judge.specs.Places.{Place, after_exact, after_differential, after_lift, after_morphism, after_stable}
use Rattle.fm_judge.specs.Places as places
use Rattle.fm_judge.specs.Claims.{row_part, unit_part, codifferential, agreeing, generated, excluded, on_differential, on_lift}
use Rattle.fm_judge.proofs.Options.{none_some, same_some, followed, mapped, where_true, last_number, earlier_number}
use Rattle.fm_judge.proofs.Goods.{AreGood, good_append, good_at, value_at, columns_are}
use Rattle.fm_judge.proofs.Resolving.{Told, Ds, Naming, row_means, rank_old, named_more, exact_more}
use Rattle.fm_judge.proofs.Lifting.{first_lift, next_lift, cocycles_named, relations_named, morphism_named}
use Rattle.fm_judge.proofs.Chains.{Repeating, chain_named, chain_grows, chain_repeats}
use Rattle.fm_judge.proofs.Stated.{IsFineAim}
use Rattle.fm_judge.proofs.Facts.{HasBlock, IsOf, FactsAt, naming_shown, exact_shown, lift_shown, morphism_shown, stable_shown}

abbrev pub AreSound : Ring → List Log → Type 0
AreSound r [] = Unit {0}
AreSound r (l ∷ ls) = IsSoundLog r l × AreSound r ls

pub sound_at : (r : Ring) (logs : List Log) (n : ℕ) (log : Log) → AreSound r logs → numbered logs n ≡ Some log → IsSoundLog r log
sound_at r [] n log s e = absurd (none_some e)
sound_at r (x ∷ xs) n log s e = go (nat_eq n 1) e (sound_at r xs (n - 1) log s.1)
  where
    go : (b : Bool) → (if b then Some x else numbered xs (n - 1)) ≡ Some log → (numbered xs (n - 1) ≡ Some log → IsSoundLog r log) → IsSoundLog r log
    go true h later = subst (IsSoundLog r) (same_some h) s.0
    go false h later = later h

-- ---- numbers of the answer
sound_agreeing : (r : Ring) (o : Option ℕ) (n : ℕ) (cs : List Condition) → HaveSoundLogs r cs → HaveSoundLogs r (agreeing o n ++ cs)
sound_agreeing r None n cs s = s
sound_agreeing r (Some k) n cs s = (tt, s)

agreeing_sound : (r : Ring) (o : Option ℕ) (n : ℕ) → HaveSoundLogs r (agreeing o n)
agreeing_sound r None n = tt
agreeing_sound r (Some k) n = (tt, tt)

told_first : (r : Ring) (o : Option ℕ) (n : ℕ) (cs : List Condition) → AllSay r (agreeing o n ++ cs) → Told o n × AllSay r cs
told_first r None n cs s = (tt, s)
told_first r (Some k) n cs s = s

told_last : (r : Ring) (o : Option ℕ) (n : ℕ) → AllSay r (agreeing o n) → Told o n
told_last r None n s = tt
told_last r (Some k) n s = s.0

module _ (q : Problem) (g : Goal) (ls : List Part) (fine : IsFineAim g.degree g.aim) where
  abbrev r : Ring
  r = q.ring

  -- the logs of the conditions are sound, and where all conditions are true, the facts of the next place are there
  abbrev pub Shown : Place → Option Block → List Condition → Type 0
  Shown p ob cs = HaveSoundLogs r cs × (AllSay r cs → FactsAt q g ls p ob)

  module _ (parts : List Part) (good : AreGood parts) (logs : List Log) (sound : AreSound r logs) where
    -- ---- the forms of claims
    pub record Generated (says : Log → (X W : Part) → Condition) (more cs : List Condition) : Type 0 where
      pub log : Log
      pub X : Part
      pub W : Part
      pub sound_log : IsSoundLog r log
      pub is : says log X W ∷ more ≡ cs

    pub generated_is : (b : Block) (says : Log → (X W : Part) → Condition) (n x w : ℕ) (more cs : List Condition) → generated r g b parts logs says n x w more ≡ Some cs → Generated says more cs
    generated_is b says n x w more cs e =
        let a = followed (numbered logs n) (λ log. numbered parts x >>= λ X. option_map (λ W. says log X W ∷ more) (numbered parts w)) cs e in
        let c = followed (numbered parts x) (λ X. option_map (λ W. says a.0 X W ∷ more) (numbered parts w)) cs a.2 in
        let d = mapped (λ W. says a.0 c.0 W ∷ more) (numbered parts w) cs c.2 in
        record { log = a.0; X = c.0; W = d.0; sound_log = sound_at r logs n a.0 sound a.1; is = d.2 }

    pub record Excluded (e : ℕ) (A V : Part) (c : ℕ) (by : List ℕ) (cs : List Condition) : Type 0 where
      pub log : Log
      pub sound_log : IsSoundLog r log
      pub some : 0 < c
      pub few : c ≤ columns_of V
      pub is : outside log e A V c by ∷ [] ≡ cs

    pub excluded_is : (b : Block) (e : ℕ) (A V : Part) (n c : ℕ) (by : List ℕ) (cs : List Condition) → excluded r g b parts logs e A V n c by ≡ Some cs → Excluded e A V c by cs
    excluded_is b e A V n c by cs h =
        let a = followed (numbered logs n) (λ (log : Log). where_so (are_numbers log.members by && (nat_lt 0 c && nat_le c (columns_of V))) (Some (outside log e A V c by ∷ []))) cs h in
        let t = where_true (are_numbers (a.0).members by && (nat_lt 0 c && nat_le c (columns_of V))) (Some (outside a.0 e A V c by ∷ [])) cs a.2 in
        let x = and_parts (are_numbers (a.0).members by) (nat_lt 0 c && nat_le c (columns_of V)) t.0 in
        let y = and_parts (nat_lt 0 c) (nat_le c (columns_of V)) x.1 in
        record { log = a.0; sound_log = sound_at r logs n a.0 sound a.1; some = ltb-true 0 c y.0; few = leb-true c (columns_of V) y.1; is = same_some t.1 }

    -- ---- `d`
    first_differential : (b : Block) → IsOf q g b → HasBlock g.aim → Naming r g 0 b → (P : Part) → fits P ≡ true → (cs : List Condition)
        → on_differential r g (add_differential b P) parts logs 0 ≡ Some cs → Shown (after_differential g 1) (Some (add_differential b P)) cs
    first_differential b of has N P f cs e =
        let c = add_differential b P in
        let made = λ (d : Part). equal d (row_part g.generators) ∷ agreeing (told_rank g.aim 0) 1 ++ agreeing (told_rank g.aim 1) (columns_of d) in
        let m = mapped made (numbered c.differentials 1) cs e in
        let same : P ≡ m.0 = last_number b.differentials P m.0 1 (ap suc (sym N.count)) m.1 in
        subst (Shown (after_differential g 1) (Some c)) (ap made same ∙ m.2) (
          (tt, sound_agreeing r (told_rank g.aim 0) 1 (agreeing (told_rank g.aim 1) (columns_of P)) (agreeing_sound r (told_rank g.aim 1) (columns_of P))),
          λ all. let t = told_first r (told_rank g.aim 0) 1 (agreeing (told_rank g.aim 1) (columns_of P)) all.1 in
              naming_shown q g ls fine c (record { degree = of.degree; generators = of.generators; behind = of.behind }) 1 has (omega arith)
              (named_more r g 0 b N P f (all.0).2 (λ z. (all.0).4 ∙ row_means r g.generators) (λ z. t.0) (told_last r (told_rank g.aim 1) (columns_of P) t.1)),
        )

    next_differential : (j : ℕ) (b : Block) → IsOf q g b → HasBlock g.aim → suc j ≤ g.degree → Naming r g (suc j) b → (P : Part) → fits P ≡ true → (cs : List Condition)
        → on_differential r g (add_differential b P) parts logs (suc j) ≡ Some cs → Shown (after_differential g (suc (suc j))) (Some (add_differential b P)) cs
    next_differential j b of has l N P f cs e =
        let c = add_differential b P in
        let made = λ (d next : Part). follows d next ∷ agreeing (told_rank g.aim (suc (suc j))) (columns_of next) in
        let a = followed (numbered c.differentials (suc j)) (λ d. option_map (made d) (numbered c.differentials (suc (suc j)))) cs e in
        let m = mapped (made a.0) (numbered c.differentials (suc (suc j))) cs a.2 in
        let same : P ≡ m.0 = last_number b.differentials P m.0 (suc (suc j)) (ap suc (sym N.count)) m.1 in
        let d = a.0 in
        let fd = good_at c.differentials (suc j) d (good_append b.differentials P N.good f) a.1 in
        subst (Shown (after_differential g (suc (suc j))) (Some c)) (ap (made d) same ∙ m.2) (
          (tt, agreeing_sound r (told_rank g.aim (suc (suc j))) (columns_of P)),
          λ all.
              let rows : rows_of P ≡ rank r.prime r.vars (Ds r g b) (suc j) = all.0 ∙ columns_are r d fd ∙ ap (λ (A : MatrixOf r). length A.columns) (sym (value_at r c.differentials j d a.1).1) ∙ rank_old r g (suc j) b N P f (suc j) (omega arith) in
              naming_shown q g ls fine c (record { degree = of.degree; generators = of.generators; behind = of.behind }) (suc (suc j)) has (omega (arith, l))
              (named_more r g (suc j) b N P f rows (λ z. absurd (omega (arith, z))) (λ z. absurd (omega (arith, z))) (told_last r (told_rank g.aim (suc (suc j))) (columns_of P) all.1)),
        )

    pub on_d : (j : ℕ) (b : Block) → FactsAt q g ls (places.differential j) (Some b) → (P : Part) → fits P ≡ true → (cs : List Condition)
        → on_differential r g (add_differential b P) parts logs j ≡ Some cs → Shown (after_differential g (suc j)) (Some (add_differential b P)) cs
    on_d zero b F P f cs e = first_differential b F.0 F.1.0 F.1.2 P f cs e
    on_d (suc j) b F P f cs e = next_differential j b F.0 F.1.0 F.1.1 F.1.2 P f cs e

    -- ---- `exact`
    pub on_exact : (j : ℕ) (b : Block) → FactsAt q g ls (places.exactness j) (Some b) → (n x w : ℕ) (cs : List Condition)
        → (numbered b.differentials (suc j) >>= λ d. numbered b.differentials (suc (suc j)) >>= λ next. generated r g b parts logs (λ log X W. kernel log d next X W) n x w []) ≡ Some cs
        → Shown (after_exact g (suc j)) (Some b) cs
    on_exact j b F n x w cs e =
        let a = followed (numbered b.differentials (suc j)) (λ d. numbered b.differentials (suc (suc j)) >>= λ next. generated r g b parts logs (λ log X W. kernel log d next X W) n x w []) cs e in
        let c = followed (numbered b.differentials (suc (suc j))) (λ next. generated r g b parts logs (λ log X W. kernel log a.0 next X W) n x w []) cs a.2 in
        let G = generated_is b (λ log X W. kernel log a.0 c.0 X W) n x w [] cs c.2 in
        subst (Shown (after_exact g (suc j)) (Some b)) G.is (
          (G.sound_log, tt),
          λ all. exact_shown q g ls fine b F.0 (suc j) F.1.0 F.1.1 (exact_more r g j b F.1.2 a.0 c.0 a.1 c.1 (all.0).1),
        )

    -- ---- `theta`
    pub on_theta : (j : ℕ) (b : Block) → FactsAt q g ls (places.lift j) (Some b) → (P : Part) → fits P ≡ true → (cs : List Condition)
        → on_lift r g (add_lift b P) parts logs j ≡ Some cs → Shown (after_lift g (suc j)) (Some (add_lift b P)) cs
    on_theta zero b F P f cs e =
        let c = add_lift b P in
        let L = F.1.2 in
        let made = λ (theta : Part). equal theta (unit_part r 1) ∷ [] in
        let m = mapped made (numbered c.lift 1) cs e in
        let same : P ≡ m.0 = last_number b.lift P m.0 1 (ap suc (sym L.count)) m.1 in
        subst (Shown (after_lift g 1) (Some c)) (ap made same ∙ m.2) (
          (tt, tt),
          λ all. lift_shown q g ls fine c (record { degree = F.0.degree; generators = F.0.generators; behind = F.0.behind }) 1 F.1.0 (omega arith) (first_lift r g b L P all.0),
        )
    on_theta (suc j) b F P f cs e =
        let c = add_lift b P in
        let L = F.1.2 in
        let few = F.1.1 in
        let made = λ (d theta next : Part). equal (times d next) (times theta (twist d 1)) ∷ [] in
        let a = followed (numbered b.differentials (suc j)) (λ d. numbered c.lift (suc j) >>= λ theta. option_map (made d theta) (numbered c.lift (suc (suc j)))) cs e in
        let t = followed (numbered c.lift (suc j)) (λ theta. option_map (made a.0 theta) (numbered c.lift (suc (suc j)))) cs a.2 in
        let m = mapped (made a.0 t.0) (numbered c.lift (suc (suc j))) cs t.2 in
        let same : P ≡ m.0 = last_number b.lift P m.0 (suc (suc j)) (ap suc (sym L.count)) m.1 in
        let old = earlier_number b.lift P t.0 (suc j) (let n = L.count in omega (arith, n)) t.1 in
        subst (Shown (after_lift g (suc (suc j))) (Some c)) (ap (made a.0 t.0) same ∙ m.2) (
          (tt, tt),
          λ all. lift_shown q g ls fine c (record { degree = F.0.degree; generators = F.0.generators; behind = F.0.behind }) (suc (suc j)) F.1.0 (omega (arith, few)) (next_lift r g j b L P a.0 t.0 f a.1 old all.0),
        )

    -- ---- `cocycles`, `relations` and `morphism`
    pub on_cocycles : (b : Block) → FactsAt q g ls places.cocycles (Some b) → (Z : Part) → fits Z ≡ true → (n x w : ℕ) (cs : List Condition)
        → (numbered b.differentials (suc g.degree) >>= λ d. numbered (b.cocycles ++ Z ∷ []) 1 >>= λ Z.
        generated r g (add_cocycles b Z) parts logs (λ log X W. kernel log (flip d) Z X W) n x w (agreeing (told_generators g.aim) (columns_of Z))) ≡ Some cs
        → Shown places.relations (Some (add_cocycles b Z)) cs
    on_cocycles b F Z f n x w cs e =
        let c = add_cocycles b Z in
        let B = F.1.1 in
        let after = λ (d Z' : Part). generated r g c parts logs (λ log X W. kernel log (flip d) Z' X W) n x w (agreeing (told_generators g.aim) (columns_of Z')) in
        let a = followed (numbered b.differentials (suc g.degree)) (λ d. numbered (b.cocycles ++ Z ∷ []) 1 >>= after d) cs e in
        let z = followed (numbered (b.cocycles ++ Z ∷ []) 1) (after a.0) cs a.2 in
        let same : Z ≡ z.0 = last_number b.cocycles Z z.0 1 (ap (λ xs. suc (length xs)) (sym B.no_cocycles)) z.1 in
        let G = generated_is c (λ log X W. kernel log (flip a.0) Z X W) n x w (agreeing (told_generators g.aim) (columns_of Z)) cs (ap (after a.0) same ∙ z.2) in
        subst (Shown places.relations (Some c)) G.is (
          (G.sound_log, agreeing_sound r (told_generators g.aim) (columns_of Z)),
          λ all. (record { degree = F.0.degree; generators = F.0.generators; behind = F.0.behind }, (F.1.0, cocycles_named r g b B Z a.0 f a.1 (all.0).0 (all.0).1 (told_last r (told_generators g.aim) (columns_of Z) all.1))),
        )

    pub on_relations : (b : Block) → FactsAt q g ls places.relations (Some b) → (N : Part) → fits N ≡ true → (n x w : ℕ) (cs : List Condition)
        → (numbered b.cocycles 1 >>= λ Z. codifferential r b.differentials g.degree >>= λ d. numbered (b.kernels ++ N ∷ []) 1 >>= λ N.
        generated r g (add_kernel b N) parts logs (λ log X W. preimage log Z d N X W) n x w (agreeing (told_relations g.aim) (columns_of N))) ≡ Some cs
        → Shown places.morphism (Some (add_kernel b N)) cs
    on_relations b F N f n x w cs e =
        let c = add_kernel b N in
        let B = F.1.1 in
        let C = B.cocycles in
        let after = λ (Z d N' : Part). generated r g c parts logs (λ log X W. preimage log Z d N' X W) n x w (agreeing (told_relations g.aim) (columns_of N')) in
        let z = followed (numbered b.cocycles 1) (λ Z. codifferential r b.differentials g.degree >>= λ d. numbered (b.kernels ++ N ∷ []) 1 >>= after Z d) cs e in
        let d = followed (codifferential r b.differentials g.degree) (λ d. numbered (b.kernels ++ N ∷ []) 1 >>= after z.0 d) cs z.2 in
        let k = followed (numbered (b.kernels ++ N ∷ []) 1) (after z.0 d.0) cs d.2 in
        let same : N ≡ k.0 = last_number b.kernels N k.0 1 (ap (λ xs. suc (length xs)) (sym B.no_kernels)) k.1 in
        let same_z : C.Z ≡ z.0 = last_number [] C.Z z.0 1 refl (ap (λ xs. numbered xs 1) (sym C.is) ∙ z.1) in
        let G = generated_is c (λ log X W. preimage log C.Z d.0 N X W) n x w (agreeing (told_relations g.aim) (columns_of N)) cs (ap (λ Z. after Z d.0 N) same_z ∙ ap (after z.0 d.0) same ∙ k.2) in
        subst (Shown places.morphism (Some c)) G.is (
          (G.sound_log, agreeing_sound r (told_relations g.aim) (columns_of N)),
          λ all. (record { degree = F.0.degree; generators = F.0.generators; behind = F.0.behind }, (F.1.0, relations_named r g b B N d.0 f d.1 (all.0).0 (all.0).1 (told_last r (told_relations g.aim) (columns_of N) all.1))),
        )

    pub on_morphism : (b : Block) → FactsAt q g ls places.morphism (Some b) → (U : Part) → fits U ≡ true → (cs : List Condition)
        → (numbered b.cocycles 1 >>= λ Z. numbered b.lift (suc g.degree) >>= λ theta. option_map (λ U. equal (times (flip theta) Z) (times (twist Z 1) U) ∷ []) (numbered (b.morphism ++ U ∷ []) 1)) ≡ Some cs
        → Shown (after_morphism g.aim) (Some (add_morphism b U)) cs
    on_morphism b F U f cs e =
        let c = add_morphism b U in
        let B = F.1.1 in
        let C = B.relations.cocycles in
        let made = λ (Z theta U' : Part). equal (times (flip theta) Z) (times (twist Z 1) U') ∷ [] in
        let z = followed (numbered b.cocycles 1) (λ Z. numbered b.lift (suc g.degree) >>= λ theta. option_map (made Z theta) (numbered (b.morphism ++ U ∷ []) 1)) cs e in
        let t = followed (numbered b.lift (suc g.degree)) (λ theta. option_map (made z.0 theta) (numbered (b.morphism ++ U ∷ []) 1)) cs z.2 in
        let m = mapped (made z.0 t.0) (numbered (b.morphism ++ U ∷ []) 1) cs t.2 in
        let same : U ≡ m.0 = last_number b.morphism U m.0 1 (ap (λ xs. suc (length xs)) (sym B.no_morphism)) m.1 in
        let same_z : C.Z ≡ z.0 = last_number [] C.Z z.0 1 refl (ap (λ xs. numbered xs 1) (sym C.is) ∙ z.1) in
        subst (Shown (after_morphism g.aim) (Some c)) (ap (λ Z. made Z t.0 U) same_z ∙ ap (made z.0 t.0) same ∙ m.2) (
          (tt, tt),
          λ all. morphism_shown q g ls fine c (record { degree = F.0.degree; generators = F.0.generators; behind = F.0.behind }) F.1.0 (morphism_named r g b B U t.0 f t.1 all.0),
        )

    -- ---- `chain`, `grows` and `stable`
    pub on_chain : (s : ℕ) (b : Block) → FactsAt q g ls (places.chain s) (Some b) → (P : Part) → fits P ≡ true → (n x w : ℕ) (cs : List Condition)
        → (numbered b.morphism 1 >>= λ U. numbered (b.kernels ++ P ∷ []) (suc s) >>= λ K. numbered (b.kernels ++ P ∷ []) (suc (suc s)) >>= λ next.
        generated r g (add_kernel b P) parts logs (λ log X W. preimage log U (twist K 1) next X W) n x w []) ≡ Some cs
        → Shown (places.turn s) (Some (add_kernel b P)) cs
    on_chain s b F P f n x w cs e =
        let c = add_kernel b P in
        let C = F.1.1 in
        let after = λ (U K next : Part). generated r g c parts logs (λ log X W. preimage log U (twist K 1) next X W) n x w [] in
        let u = followed (numbered b.morphism 1) (λ U. numbered (b.kernels ++ P ∷ []) (suc s) >>= λ K. numbered (b.kernels ++ P ∷ []) (suc (suc s)) >>= after U K) cs e in
        let k = followed (numbered (b.kernels ++ P ∷ []) (suc s)) (λ K. numbered (b.kernels ++ P ∷ []) (suc (suc s)) >>= after u.0 K) cs u.2 in
        let m = followed (numbered (b.kernels ++ P ∷ []) (suc (suc s))) (after u.0 k.0) cs k.2 in
        let same : P ≡ m.0 = last_number b.kernels P m.0 (suc (suc s)) (ap suc (sym C.count)) m.1 in
        let same_u : C.U ≡ u.0 = last_number [] C.U u.0 1 refl (ap (λ xs. numbered xs 1) (sym C.U_is) ∙ u.1) in
        let old = earlier_number b.kernels P k.0 (suc s) (let o = C.count in omega (arith, o)) k.1 in
        let G = generated_is c (λ log X W. preimage log C.U (twist k.0 1) P X W) n x w [] cs (ap (λ U. after U k.0 P) same_u ∙ ap (after u.0 k.0) same ∙ m.2) in
        subst (Shown (places.turn s) (Some c)) G.is (
          (G.sound_log, tt),
          λ all. (record { degree = F.0.degree; generators = F.0.generators; behind = F.0.behind }, (F.1.0, chain_named r g s b C P k.0 f old (all.0).0 (all.0).1)),
        )

    pub on_grows : (s : ℕ) (b : Block) → FactsAt q g ls (places.turn s) (Some b) → (n c : ℕ) (by : List ℕ) (cs : List Condition)
        → (numbered b.kernels (suc s) >>= λ K. numbered b.kernels (suc (suc s)) >>= λ next. excluded r g b parts logs 0 K next n c by) ≡ Some cs → Shown (places.chain (suc s)) (Some b) cs
    on_grows s b F n c by cs e =
        let k = followed (numbered b.kernels (suc s)) (λ K. numbered b.kernels (suc (suc s)) >>= λ next. excluded r g b parts logs 0 K next n c by) cs e in
        let m = followed (numbered b.kernels (suc (suc s))) (λ next. excluded r g b parts logs 0 k.0 next n c by) cs k.2 in
        let X = excluded_is b 0 k.0 m.0 n c by cs m.2 in
        subst (Shown (places.chain (suc s)) (Some b)) X.is (
          (X.sound_log, tt),
          λ all. (F.0, (F.1.0, chain_grows r g s c b F.1.1 k.0 m.0 k.1 m.1 X.some X.few (all.0 X.some X.few))),
        )

    pub on_stable : (s : ℕ) (b : Block) → FactsAt q g ls (places.turn s) (Some b) → (w : ℕ) (cs : List Condition)
        → (numbered b.kernels (suc s) >>= λ K. numbered b.kernels (suc (suc s)) >>= λ next. option_map (λ W. equal next (times K W) ∷ agreeing (told_moves g.aim) s) (numbered parts w)) ≡ Some cs
        → HaveSoundLogs r cs × (AllSay r cs → Repeating r g s b × FactsAt q g ls (after_stable g.aim s) (Some b))
    on_stable s b F w cs e =
        let made = λ (K next W : Part). equal next (times K W) ∷ agreeing (told_moves g.aim) s in
        let k = followed (numbered b.kernels (suc s)) (λ K. numbered b.kernels (suc (suc s)) >>= λ next. option_map (made K next) (numbered parts w)) cs e in
        let m = followed (numbered b.kernels (suc (suc s))) (λ next. option_map (made k.0 next) (numbered parts w)) cs k.2 in
        let v = mapped (made k.0 m.0) (numbered parts w) cs m.2 in
        subst (λ cs. HaveSoundLogs r cs × (AllSay r cs → Repeating r g s b × FactsAt q g ls (after_stable g.aim s) (Some b))) v.2 (
          (tt, agreeing_sound r (told_moves g.aim) s),
          λ all. let R = chain_repeats r g s b F.1.1 k.0 m.0 v.0 k.1 m.1 all.0 in (R, stable_shown q g ls fine b F.0 s F.1.0 (told_last r (told_moves g.aim) s all.1) R),
        )
