-- What the claims of the lines on an answer show, where they hold, in each place.
use Rattle.std.proofs.Common.{◌≡◌, ℕ, suc, ◌+◌, ◌-◌, Bool, true, false, nat_lt, if◌then◌else◌, List, [], ◌∷◌, ◌++◌, length, Option, Some, None, option_map, refl, sym, ap, subst, arith, ◌∙◌}
use Rattle.std.proofs.lemmas.Bool.{ltb-true}
use Rattle.fm_words.specs.Options.{◌>>=◌}
use Rattle.fm_limit.specs.Verdicts.{zero_limit, zero_class, inverting, support, member}
use Rattle.fm_poly.specs.Polys.{PolyValue, meaning}
use Rattle.fm_poly.specs.declared.ring.Ring.{Ring}
use Rattle.fm_problem.specs.declared.problem.Problem.{Problem}
use Rattle.fm_report.specs.Parts.{Part, twist, times, meant}
use Rattle.fm_report.specs.Sheets.{Block, numbered}
use Rattle.fm_parts.specs.Shapes.{rows_of, fits}
use Rattle.fm_parts.specs.Conditions.{Log, Condition, equal, preimage, outside, lists, never}
use Rattle.fm_parts.specs.Meanings.{Says}
use Rattle.fm_judge.specs.Goals.{Goal}
use Rattle.fm_judge.specs.Goals as aims
use Rattle.fm_judge.specs.Places.{Place, after_coordinates, after_power, after_row}
use Rattle.fm_judge.specs.Places as places
use Rattle.fm_judge.specs.Claims.{row_part, column_part, unit_part, stage_of, class_of, member_of, generated, excluded, lives_before, factored_part, power_part, scalar_part, colon_at, on_colon, unit_column_part, blocks_part}
use Rattle.fm_judge.proofs.Options.{same_some, followed, mapped}
use Rattle.fm_judge.proofs.Goods.{AreGood, good_at}
use Rattle.fm_judge.proofs.Lifting.{ideal_of}
use Rattle.fm_judge.proofs.Verdicts.{zero_yes, zero_no, member_yes, member_no}
use Rattle.fm_judge.proofs.Classes.{IsIn, coordinates_are, outside_kernel, dies_right, lives_right}
use Rattle.fm_judge.proofs.Inverting.{Lands, lands, lands_not, inverted_right, member_is, colon_named, settled, never_right}
use Rattle.fm_judge.proofs.Annihilating.{support_right}
use Rattle.fm_judge.proofs.Stated.{IsFineAim, stated_of}
use Rattle.fm_judge.proofs.Facts.{FactsAt, coordinates_shown, power_shown}
use Rattle.fm_judge.proofs.Claimed.{AreSound, Shown, generated_is, excluded_is}

module _ (q : Problem) (g : Goal) (ls : List Part) (fine : IsFineAim g.degree g.aim) where
  abbrev r : Ring
  r = q.ring

  abbrev Shows : Place → Option Block → List Condition → Type 0
  Shows = Shown q g ls fine

  module _ (parts : List Part) (good : AreGood parts) (logs : List Log) (sound : AreSound r logs) where
    -- ---- after a chain
    pub on_whole : (t : ℕ) (b : Block) → FactsAt q g ls (places.whole t) (Some b) → (w : ℕ) (cs : List Condition)
        → (numbered b.kernels (suc t) >>= λ K. option_map (λ W. equal (times K W) (unit_part r (rows_of K)) ∷ []) (numbered parts w)) ≡ Some cs → Shows places.end (Some b) cs
    on_whole t b F w cs e =
        let made = λ (K W : Part). equal (times K W) (unit_part r (rows_of K)) ∷ [] in
        let k = followed (numbered b.kernels (suc t)) (λ K. option_map (made K) (numbered parts w)) cs e in
        let v = mapped (made k.0) (numbered parts w) cs k.2 in
        subst (Shows places.end (Some b)) v.2 (
          (tt, tt),
          λ all. (zero_limit g.degree (ideal_of r g b) true t, ap (λ x. stated_of r g ls x (Some b)) F.1.0, zero_yes r g t b F.1.1 k.0 v.0 k.1 all.0),
        )

    pub on_proper : (t : ℕ) (b : Block) → FactsAt q g ls (places.proper t) (Some b) → (n c : ℕ) (by : List ℕ) (cs : List Condition)
        → (numbered b.kernels (suc t) >>= λ K. excluded r g b parts logs 0 K (unit_part r (rows_of K)) n c by) ≡ Some cs → Shows places.end (Some b) cs
    on_proper t b F n c by cs e =
        let k = followed (numbered b.kernels (suc t)) (λ K. excluded r g b parts logs 0 K (unit_part r (rows_of K)) n c by) cs e in
        let X = excluded_is q g ls fine parts good logs sound b 0 k.0 (unit_part r (rows_of k.0)) n c by cs k.2 in
        subst (Shows places.end (Some b)) X.is (
          (X.sound_log, tt),
          λ all. (zero_limit g.degree (ideal_of r g b) false t, ap (λ x. stated_of r g ls x (Some b)) F.1.0, zero_no r g t b F.1.1 k.0 X.log c by k.1 X.some X.few all.0),
        )

    pub on_coordinates : (t : ℕ) (b : Block) → FactsAt q g ls (places.coordinates t) (Some b) → (w : Part) → fits w ≡ true → (cs : List Condition)
        → option_map (λ Z. equal (times (twist Z (stage_of g.aim)) w) (column_part (class_of g.aim)) ∷ []) (numbered b.cocycles 1) ≡ Some cs → Shows (after_coordinates g.aim w t) (Some b) cs
    on_coordinates t b F w f cs e =
        let made = λ (Z : Part). equal (times (twist Z (stage_of g.aim)) w) (column_part (class_of g.aim)) ∷ [] in
        let z = mapped made (numbered b.cocycles 1) cs e in
        subst (Shows (after_coordinates g.aim w t) (Some b)) z.2 (
          (tt, tt),
          λ all. coordinates_shown q g ls fine b F.0 w t F.1.0 (F.1.1, coordinates_are r g t b F.1.1 (stage_of g.aim) (class_of g.aim) w z.0 f z.1 all.0),
        )

    pub on_dies : (w : Part) (t m : ℕ) (b : Block) → FactsAt q g ls (places.dies w t m) (Some b) → (x : ℕ) (cs : List Condition)
        → (numbered b.kernels (suc m) >>= λ K. option_map (λ W. equal w (times (twist K (stage_of g.aim)) W) ∷ []) (numbered parts x)) ≡ Some cs → Shows places.end (Some b) cs
    on_dies w t m b F x cs e =
        let made = λ (K W : Part). equal w (times (twist K (stage_of g.aim)) W) ∷ [] in
        let k = followed (numbered b.kernels (suc m)) (λ K. option_map (made K) (numbered parts x)) cs e in
        let v = mapped (made k.0) (numbered parts x) cs k.2 in
        let L = F.1.3 in
        subst (Shows places.end (Some b)) v.2 (
          (tt, tt),
          λ all. (
            zero_class g.degree (ideal_of r g b) F.1.0 (meant r F.1.1) (Some (F.1.0 + m)),
            ap (λ x. stated_of r g ls x (Some b)) F.1.2,
            dies_right r g t b L.0 F.1.0 F.1.1 m w k.0 v.0 F.1.4 L.1 F.1.5 k.1 (subst (λ e. Says r (equal w (times (twist k.0 e) v.0))) (ap stage_of F.1.2) all.0),
          ),
        )

    pub on_lives_on : (w : Part) (t : ℕ) (b : Block) → FactsAt q g ls (places.lives_on w t) (Some b) → (n : ℕ) (by : List ℕ) (cs : List Condition)
        → (numbered b.kernels (suc t) >>= λ K. excluded r g b parts logs (stage_of g.aim) K w n 1 by) ≡ Some cs → Shows places.end (Some b) cs
    on_lives_on w t b F n by cs e =
        let k = followed (numbered b.kernels (suc t)) (λ K. excluded r g b parts logs (stage_of g.aim) K w n 1 by) cs e in
        let X = excluded_is q g ls fine parts good logs sound b (stage_of g.aim) k.0 w n 1 by cs k.2 in
        let L = F.1.3 in
        subst (Shows places.end (Some b)) X.is (
          (X.sound_log, tt),
          λ all. (
            zero_class g.degree (ideal_of r g b) F.1.0 (meant r F.1.1) None,
            ap (λ x. stated_of r g ls x (Some b)) F.1.2,
            lives_right r g t b L.0 F.1.0 F.1.1 w k.0 X.log by L.1 k.1 (subst (λ e. Says r (outside X.log e k.0 w 1 by)) (ap stage_of F.1.2) all.0),
          ),
        )

    pub on_lives : (w : Part) (t k : ℕ) (b : Block) → FactsAt q g ls (places.lives w t k) (Some b) → (n : ℕ) (by : List ℕ) (cs : List Condition)
        → lives_before r g b parts logs w t k n by ≡ Some cs → Shows (places.dies w t (suc k)) (Some b) cs
    on_lives w t k b F n by cs e = go (nat_lt k t) refl e
      where
        go : (x : Bool) → nat_lt k t ≡ x → (if x then (numbered b.kernels (suc k) >>= λ K. excluded r g b parts logs (stage_of g.aim) K w n 1 by)
            else (numbered b.kernels (suc t) >>= λ K. option_map (λ (cs : List Condition). never ∷ []) (excluded r g b parts logs (stage_of g.aim) K w n 1 by))) ≡ Some cs
            → Shows (places.dies w t (suc k)) (Some b) cs
        go true l h =
            let a = followed (numbered b.kernels (suc k)) (λ K. excluded r g b parts logs (stage_of g.aim) K w n 1 by) cs h in
            let X = excluded_is q g ls fine parts good logs sound b (stage_of g.aim) a.0 w n 1 by cs a.2 in
            let L = F.1.3 in
            let few = ltb-true k t l in
            subst (Shows (places.dies w t (suc k)) (Some b)) X.is (
              (X.sound_log, tt),
              λ all. (
                F.0,
                (
                  F.1.0,
                  F.1.1,
                  F.1.2,
                  L,
                  omega (arith, few),
                  λ j s.
                      let same : k ≡ j = omega (arith, s) in
                      subst (λ j. ¬ (IsIn r g t b L.0 F.1.0 F.1.1 j w)) same
                      (outside_kernel r g t b L.0 F.1.0 F.1.1 k w a.0 X.log by L.1 a.1 (subst (λ e. Says r (outside X.log e a.0 w 1 by)) (ap stage_of F.1.2) all.0)),
                ),
              ),
            )
        go false l h =
            let a = followed (numbered b.kernels (suc t)) (λ K. option_map (λ (cs : List Condition). never ∷ []) (excluded r g b parts logs (stage_of g.aim) K w n 1 by)) cs h in
            let m = mapped (λ (cs : List Condition). never ∷ []) (excluded r g b parts logs (stage_of g.aim) a.0 w n 1 by) cs a.2 in
            subst (Shows (places.dies w t (suc k)) (Some b)) m.2 ((tt, tt), λ all. absurd all.0)

    -- ---- inverting
    pub on_power : (f : PolyValue) (t k : ℕ) (b : Block) → FactsAt q g ls (places.power f t k) (Some b) → (w : ℕ) (cs : List Condition)
        → (numbered b.kernels (suc t) >>= λ K. option_map (λ W. equal (factored_part r f k) (factored_part r f k) ∷ equal (power_part r f k (rows_of K)) (times K W) ∷ []) (numbered parts w)) ≡ Some cs
        → Shows (after_power f t k) (Some b) cs
    on_power f t k b F w cs e =
        let made = λ (K W : Part). equal (factored_part r f k) (factored_part r f k) ∷ equal (power_part r f k (rows_of K)) (times K W) ∷ [] in
        let a = followed (numbered b.kernels (suc t)) (λ K. option_map (made K) (numbered parts w)) cs e in
        let v = mapped (made a.0) (numbered parts w) cs a.2 in
        subst (Shows (after_power f t k) (Some b)) v.2 (
          (tt, (tt, tt)),
          λ all. power_shown q g ls fine b F.0 f t k F.1.0 F.1.1 (lands r g t b F.1.1 f k a.0 v.0 a.1 (all.1).0),
        )

    pub on_least : (f : PolyValue) (t k : ℕ) (b : Block) → FactsAt q g ls (places.least f t k) (Some b) → (n c : ℕ) (by : List ℕ) (cs : List Condition)
        → (numbered b.kernels (suc t) >>= λ K. option_map (λ cs. equal (factored_part r f k) (factored_part r f k) ∷ cs) (excluded r g b parts logs 0 K (power_part r f k (rows_of K)) n c by)) ≡ Some cs
        → Shows places.end (Some b) cs
    on_least f t k b F n c by cs e =
        let formed = λ (cs : List Condition). equal (factored_part r f k) (factored_part r f k) ∷ cs in
        let after = λ (K : Part). excluded r g b parts logs 0 K (power_part r f k (rows_of K)) n c by in
        let a = followed (numbered b.kernels (suc t)) (λ K. option_map formed (after K)) cs e in
        let v = mapped formed (after a.0) cs a.2 in
        let X = excluded_is q g ls fine parts good logs sound b 0 a.0 (power_part r f k (rows_of a.0)) n c by v.0 v.1 in
        subst (Shows places.end (Some b)) (ap formed X.is ∙ v.2) (
          (tt, (X.sound_log, tt)),
          λ all. (
            inverting g.degree (ideal_of r g b) (meaning r f.terms) (Some (suc k)),
            ap (λ x. stated_of r g ls x (Some b)) F.1.0,
            inverted_right r g t b F.1.1 f (suc k) F.1.2
                (λ j s. let same : k ≡ j = omega (arith, s) in subst (λ j. ¬ (Lands r g t b F.1.1 f j)) same (lands_not r g t b F.1.1 f k X.log a.0 c by a.1 X.some X.few (all.1).0)),
          ),
        )

    pub on_colons : (f : PolyValue) (t : ℕ) (found : List Part) (b : Block) → FactsAt q g ls (places.colon f t found) (Some b) → (P : Part) → fits P ≡ true → (n x w : ℕ) (cs : List Condition)
        → on_colon r g b parts logs f t found P n x w ≡ Some cs → Shows (places.colon f t (found ++ P ∷ [])) (Some b) cs
    on_colons f t found b F P f_P n x w cs e =
        let says = λ (C : Part) (log : Log) (X W : Part). preimage log (scalar_part r (meaning r f.terms) (rows_of C)) C P X W in
        let a = followed (colon_at r g b parts logs t found (length found)) (λ C. generated r g b parts logs (says C) n x w []) cs e in
        let G = generated_is q g ls fine parts good logs sound b (says a.0) n x w [] cs a.2 in
        let R = F.1.1 in
        let C = F.1.2 in
        let m = member_is r g t b R f parts logs found (length found) a.0 C.good a.1 in
        subst (Shows (places.colon f t (found ++ P ∷ [])) (Some b)) G.is (
          (G.sound_log, tt),
          λ all. (F.0, (F.1.0, R, colon_named r g t b R f found C P a.0 G.log G.X G.W f_P m.0 m.1 all.0)),
        )

    pub on_settles : (f : PolyValue) (t : ℕ) (found : List Part) (b : Block) → FactsAt q g ls (places.colon f t found) (Some b) → nat_lt 0 (length found) ≡ true → (w : ℕ) (cs : List Condition)
        → (colon_at r g b parts logs t found (length found - 1) >>= λ C. colon_at r g b parts logs t found (length found) >>= λ last. option_map (λ W. equal last (times C W) ∷ []) (numbered parts w)) ≡ Some cs
        → Shows (places.proper_colon t found) (Some b) cs
    on_settles f t found b F some_found w cs e =
        let made = λ (C last W : Part). equal last (times C W) ∷ [] in
        let a = followed (colon_at r g b parts logs t found (length found - 1)) (λ C. colon_at r g b parts logs t found (length found) >>= λ last. option_map (made C last) (numbered parts w)) cs e in
        let d = followed (colon_at r g b parts logs t found (length found)) (λ last. option_map (made a.0 last) (numbered parts w)) cs a.2 in
        let v = mapped (made a.0 d.0) (numbered parts w) cs d.2 in
        let R = F.1.1 in
        let C = F.1.2 in
        let before = member_is r g t b R f parts logs found (length found - 1) a.0 C.good a.1 in
        let latest = member_is r g t b R f parts logs found (length found) d.0 C.good d.1 in
        subst (Shows (places.proper_colon t found) (Some b)) v.2 (
          (tt, tt),
          λ all. (F.0, (f, F.1.0, R, C, ltb-true 0 (length found) some_found, settled r g t b R f found a.0 d.0 v.0 before.1 latest.1 all.0)),
        )

    pub on_proper_colon : (t : ℕ) (found : List Part) (b : Block) → FactsAt q g ls (places.proper_colon t found) (Some b) → (n c : ℕ) (by : List ℕ) (cs : List Condition)
        → (colon_at r g b parts logs t found (length found - 1) >>= λ C. excluded r g b parts logs 0 C (unit_part r (rows_of C)) n c by) ≡ Some cs → Shows places.end (Some b) cs
    on_proper_colon t found b F n c by cs e =
        let a = followed (colon_at r g b parts logs t found (length found - 1)) (λ C. excluded r g b parts logs 0 C (unit_part r (rows_of C)) n c by) cs e in
        let X = excluded_is q g ls fine parts good logs sound b 0 a.0 (unit_part r (rows_of a.0)) n c by cs a.2 in
        let f = F.1.0 in
        let R = F.1.2 in
        let C = F.1.3 in
        let m = member_is r g t b R f parts logs found (length found - 1) a.0 C.good a.1 in
        subst (Shows places.end (Some b)) X.is (
          (X.sound_log, tt),
          λ all. (
            inverting g.degree (ideal_of r g b) (meaning r f.terms) None,
            ap (λ x. stated_of r g ls x (Some b)) F.1.1,
            never_right r g t b R f found C F.1.4 F.1.5 a.0 m.0 m.1 X.log c by X.some X.few all.0,
          ),
        )

    -- ---- supports
    pub on_annihilator : (ideal : List PolyValue) (t : ℕ) (b : Block) → FactsAt q g ls (places.annihilator ideal t) (Some b) → (k n x w : ℕ) (cs : List Condition)
        → (numbered b.kernels (suc t) >>= λ K. numbered parts k >>= λ P. option_map (λ cs. equal K K ∷ cs)
        (generated r g b parts logs (λ log X W. preimage log (unit_column_part r (rows_of K)) (blocks_part r K) P X W) n x w (lists ideal P ∷ []))) ≡ Some cs
        → Shows places.end (Some b) cs
    on_annihilator ideal t b F k n x w cs e =
        let says = λ (K P : Part) (log : Log) (X W : Part). preimage log (unit_column_part r (rows_of K)) (blocks_part r K) P X W in
        let formed = λ (K : Part) (cs : List Condition). equal K K ∷ cs in
        let after = λ (K P : Part). generated r g b parts logs (says K P) n x w (lists ideal P ∷ []) in
        let a = followed (numbered b.kernels (suc t)) (λ K. numbered parts k >>= λ P. option_map (formed K) (after K P)) cs e in
        let p = followed (numbered parts k) (λ P. option_map (formed a.0) (after a.0 P)) cs a.2 in
        let v = mapped (formed a.0) (after a.0 p.0) cs p.2 in
        let G = generated_is q g ls fine parts good logs sound b (says a.0 p.0) n x w (lists ideal p.0 ∷ []) v.0 v.1 in
        subst (Shows places.end (Some b)) (ap (formed a.0) G.is ∙ v.2) (
          (tt, (G.sound_log, (tt, tt))),
          λ all. (
            support g.degree (ideal_of r g b) (meant r ideal),
            ap (λ x. stated_of r g ls x (Some b)) F.1.0,
            support_right r g t b F.1.1 ideal a.0 p.0 G.X G.W G.log (good_at parts k p.0 good p.1) a.1 (all.1).0 ((all.1).1).0,
          ),
        )

    -- ---- membership
    pub on_row : FactsAt q g ls places.ideal_row None → (d : Part) (cs : List Condition) → Some (equal d (row_part g.generators) ∷ []) ≡ Some cs → Shows (after_row g.aim d) None cs
    on_row F d cs e = subst (Shows (after_row g.aim d) None) (same_some e) ((tt, tt), λ all. by_answer F.1 F.2 all.0)
      where
        by_answer : (inside : Bool) → g.aim ≡ aims.membership F.0 inside → Says r (equal d (row_part g.generators)) → FactsAt q g ls (after_row g.aim d) None
        by_answer true a h = subst (λ x. FactsAt q g ls (after_row x d) None) (sym a) (F.0, a, h)
        by_answer false a h = subst (λ x. FactsAt q g ls (after_row x d) None) (sym a) (F.0, a, h)

    pub on_cofactors : (d : Part) → FactsAt q g ls (places.cofactors d) None → (x : ℕ) (cs : List Condition)
        → option_map (λ W. equal (times d W) (column_part (member_of g.aim)) ∷ []) (numbered parts x) ≡ Some cs → Shows places.end None cs
    on_cofactors d F x cs e =
        let v = mapped (λ W. equal (times d W) (column_part (member_of g.aim)) ∷ []) (numbered parts x) cs e in
        subst (Shows places.end None) v.2 (
          (tt, tt),
          λ all. (
            member (meant r g.generators) (meaning r (F.0).terms) true,
            ap (λ x. stated_of r g ls x None) F.1,
            member_yes r g.generators F.0 d v.0 F.2 (subst (λ z. Says r (equal (times d v.0) (column_part z))) (ap member_of F.1) all.0),
          ),
        )

    pub on_foreign : (d : Part) → FactsAt q g ls (places.foreign d) None → (b : Block) (n : ℕ) (by : List ℕ) (cs : List Condition)
        → excluded r g b parts logs 0 d (column_part (member_of g.aim)) n 1 by ≡ Some cs → Shows places.end None cs
    on_foreign d F b n by cs e =
        let X = excluded_is q g ls fine parts good logs sound b 0 d (column_part (member_of g.aim)) n 1 by cs e in
        subst (Shows places.end None) X.is (
          (X.sound_log, tt),
          λ all. (
            member (meant r g.generators) (meaning r (F.0).terms) false,
            ap (λ x. stated_of r g ls x None) F.1,
            member_no r g.generators F.0 d X.log by F.2 (subst (λ z. Says r (outside X.log 0 d (column_part z) 1 by)) (ap member_of F.1) all.0),
          ),
        )
