-- What the claims of the lines on a map show, where they hold, in each place.
use Rattle.std.proofs.Common.{◌≡◌, ℕ, suc, ◌-◌, ◌≤◌, true, nat_lt, List, [], ◌∷◌, ◌++◌, length, Option, Some, None, option_map, refl, sym, ap, ◌∙◌, subst, arith}
use Rattle.std.proofs.lemmas.Bool.{ltb-true}
use Rattle.fm_words.specs.Options.{◌>>=◌}
use Rattle.std.proofs.lemmas.List.{length-append}
use Rattle.fm_limit.specs.Facts.{IsEverything}
use Rattle.fm_limit.specs.ResolvedIdeal.{matrix_at}
use Rattle.fm_poly.specs.declared.ring.Ring.{Ring}
use Rattle.fm_problem.specs.declared.problem.Problem.{Problem}
use Rattle.fm_report.specs.Parts.{Part, flip, twist, times}
use Rattle.fm_report.specs.Sheets.{Block, numbered}
use Rattle.fm_parts.specs.Shapes.{rows_of, fits}
use Rattle.fm_parts.specs.Conditions.{Log, Condition, equal, preimage}
use Rattle.fm_parts.specs.Meanings.{AllSay, HaveSoundLogs}
use Rattle.fm_judge.specs.Goals.{Goal, MapSource}
use Rattle.fm_judge.specs.Places.{Place, after_lambda, after_phi, after_fibre, after_link}
use Rattle.fm_judge.specs.Places as places
use Rattle.fm_judge.specs.Claims.{unit_part, generated, excluded, source_of, source_differential, source_cocycles, source_kernel, on_lambda, link_at, on_link, is_short}
use Rattle.fm_judge.proofs.Options.{same_some, followed, mapped}
use Rattle.fm_judge.proofs.Goods.{AreGood}
use Rattle.fm_judge.proofs.Lifting.{empty}
use Rattle.fm_judge.proofs.Mapping.{Sides, Mapped, ZeroSaid, OneSaid, Compared, first_identity, next_identity, phi_named, zero_said, zero_denied, fibre_named, one_said, one_denied}
use Rattle.fm_judge.proofs.Linking.{Members, Links, links_begin, link_is, link_named, link_short, link_everything, closed, onto_right, never_onto_right}
use Rattle.fm_judge.proofs.Stated.{IsFineAim}
use Rattle.fm_judge.proofs.Facts.{IsOf, FactsAt, lambda_shown, phi_shown, fibre_shown, link_shown, map_shown}
use Rattle.fm_judge.proofs.Claimed.{AreSound, Shown, generated_is, excluded_is}

module _ (q : Problem) (g : Goal) (ls : List Part) (fine : IsFineAim g.degree g.aim) where
  abbrev r : Ring
  r = q.ring

  abbrev Shows : Place → Option Block → List Condition → Type 0
  Shows = Shown q g ls fine

  module _ (parts : List Part) (good : AreGood parts) (logs : List Log) (sound : AreSound r logs) where
    -- ---- maps
    -- `lambda j`: one matrix more in the lift of the identity
    pub on_identity : (t : ℕ) (identity : List Part) (b : Block) → FactsAt q g ls (places.lambda t identity) (Some b) → length identity ≡ length ls → (P : Part) → fits P ≡ true → (cs : List Condition)
        → on_lambda r g b parts logs identity P ≡ Some cs → HaveSoundLogs r cs × (AllSay r cs → FactsAt q g (ls ++ P ∷ []) (after_lambda g t (identity ++ P ∷ [])) (Some b))
    on_identity t [] b F long P f cs e =
        let A = F.1.0 in
        subst (λ cs. HaveSoundLogs r cs × (AllSay r cs → FactsAt q g (ls ++ P ∷ []) (after_lambda g t (P ∷ [])) (Some b))) (same_some e) (
          (tt, tt),
          λ all. lambda_shown q g (ls ++ P ∷ []) fine b F.0 t A (P ∷ []) (omega arith) (ap (λ xs. xs ++ P ∷ []) (empty ls (sym long))) (first_identity r g b t A P f all.0),
        )
    on_identity t (L ∷ ids) b F long P f cs e =
        let A = F.1.0 in
        let few = F.1.1 in
        let identity = L ∷ ids in
        let j = length ids in
        let made = λ (d last d' : Part). equal (times d P) (times last d') ∷ [] in
        let d = followed (source_differential r g b parts logs (suc j)) (λ d. numbered identity (suc j) >>= λ last. option_map (made d last) (numbered b.differentials (suc j))) cs e in
        let l = followed (numbered identity (suc j)) (λ last. option_map (made d.0 last) (numbered b.differentials (suc j))) cs d.2 in
        let m = mapped (made d.0 l.0) (numbered b.differentials (suc j)) cs l.2 in
        let i = subst (λ (x : MapSource). numbered x.block.differentials (suc j) ≡ Some d.0) (ap source_of A.aim_is) d.1 in
        subst (λ cs. HaveSoundLogs r cs × (AllSay r cs → FactsAt q g (ls ++ P ∷ []) (after_lambda g t (identity ++ P ∷ [])) (Some b))) m.2 (
          (tt, tt),
          λ all. lambda_shown q g (ls ++ P ∷ []) fine b F.0 t A (identity ++ P ∷ []) (let k = length-append identity (P ∷ []) in omega (arith, k, few)) (ap (λ xs. xs ++ P ∷ []) (F.1.2 (omega arith)))
              (next_identity r g b t A j identity refl F.1.3 P d.0 l.0 m.0 f i l.1 m.1 all.0),
        )

    pub on_phi : (t : ℕ) (identity : List Part) (b : Block) → FactsAt q g ls (places.phi t identity) (Some b) → (Phi : Part) → fits Phi ≡ true → (cs : List Condition)
        → (source_cocycles r g b parts logs >>= λ Z. numbered identity (suc g.degree) >>= λ last. option_map (λ Z'. equal (times (flip last) Z) (times Z' Phi) ∷ []) (numbered b.cocycles 1)) ≡ Some cs
        → Shows (after_phi g.aim t Phi) (Some b) cs
    on_phi t identity b F Phi f cs e =
        let A = F.1.0 in
        let made = λ (Z last Z' : Part). equal (times (flip last) Z) (times Z' Phi) ∷ [] in
        let z = followed (source_cocycles r g b parts logs) (λ Z. numbered identity (suc g.degree) >>= λ last. option_map (made Z last) (numbered b.cocycles 1)) cs e in
        let l = followed (numbered identity (suc g.degree)) (λ last. option_map (made z.0 last) (numbered b.cocycles 1)) cs z.2 in
        let m = mapped (made z.0 l.0) (numbered b.cocycles 1) cs l.2 in
        let i = subst (λ (x : MapSource). numbered x.block.cocycles 1 ≡ Some z.0) (ap source_of A.aim_is) z.1 in
        subst (Shows (after_phi g.aim t Phi) (Some b)) m.2 (
          (tt, tt),
          λ all. phi_shown q g ls fine b F.0 t A Phi (subst (λ xs. Mapped r g b t A xs Phi) (sym F.1.2) (phi_named r g b t A identity F.1.1 F.1.3 Phi z.0 l.0 m.0 f i l.1 m.1 all.0)),
        )

    pub on_null : (t : ℕ) (Phi : Part) (b : Block) → FactsAt q g ls (places.null t Phi) (Some b) → (w : ℕ) (cs : List Condition)
        → (numbered b.kernels (suc t) >>= λ K. option_map (λ W. equal Phi (times K W) ∷ []) (numbered parts w)) ≡ Some cs → Shows (places.fibre t Phi) (Some b) cs
    on_null t Phi b F w cs e =
        let made = λ (K W : Part). equal Phi (times K W) ∷ [] in
        let a = followed (numbered b.kernels (suc t)) (λ K. option_map (made K) (numbered parts w)) cs e in
        let v = mapped (made a.0) (numbered parts w) cs a.2 in
        let A = F.1.0 in
        subst (Shows (places.fibre t Phi) (Some b)) v.2 ((tt, tt), λ all. (F.0, (A, F.1.2, zero_said r g b t A Phi a.0 v.0 F.1.1 a.1 all.0)))

    pub on_nonnull : (t : ℕ) (Phi : Part) (b : Block) → FactsAt q g ls (places.nonnull t Phi) (Some b) → (n c : ℕ) (by : List ℕ) (cs : List Condition)
        → (numbered b.kernels (suc t) >>= λ K. excluded r g b parts logs 0 K Phi n c by) ≡ Some cs → Shows (places.fibre t Phi) (Some b) cs
    on_nonnull t Phi b F n c by cs e =
        let a = followed (numbered b.kernels (suc t)) (λ K. excluded r g b parts logs 0 K Phi n c by) cs e in
        let X = excluded_is q g ls fine parts good logs sound b 0 a.0 Phi n c by cs a.2 in
        let A = F.1.0 in
        subst (Shows (places.fibre t Phi) (Some b)) X.is ((X.sound_log, tt), λ all. (F.0, (A, F.1.2, zero_denied r g b t A Phi a.0 X.log c by (F.1.2).good F.1.1 a.1 X.some X.few all.0)))

    pub on_fibre : (t : ℕ) (Phi : Part) (b : Block) → FactsAt q g ls (places.fibre t Phi) (Some b) → (C : Part) → fits C ≡ true → (n x w : ℕ) (cs : List Condition)
        → (numbered b.kernels (suc t) >>= λ K. generated r g b parts logs (λ log X W. preimage log Phi K C X W) n x w []) ≡ Some cs → Shows (after_fibre g.aim t Phi C) (Some b) cs
    on_fibre t Phi b F C f n x w cs e =
        let says = λ (K : Part) (log : Log) (X W : Part). preimage log Phi K C X W in
        let a = followed (numbered b.kernels (suc t)) (λ K. generated r g b parts logs (says K) n x w []) cs e in
        let G = generated_is q g ls fine parts good logs sound b (says a.0) n x w [] cs a.2 in
        let A = F.1.0 in
        subst (Shows (after_fibre g.aim t Phi C) (Some b)) G.is ((G.sound_log, tt), λ all. fibre_shown q g ls fine b F.0 t A Phi C F.1.1 F.1.2 (fibre_named r g b t A Phi a.0 C G.X G.W G.log f a.1 all.0))

    -- no link yet
    unlinked : (t : ℕ) (Phi : Part) (b : Block) → IsOf q g b → (A : Sides r g b t) → Mapped r g b t A ls Phi → ZeroSaid r g b t A Phi → OneSaid r g b t A Phi → FactsAt q g ls (after_link g.aim t Phi []) (Some b)
    unlinked t Phi b of A M Z O =
        let D : Compared r g b t A ls Phi = record { mapped = M; is_zero_so = Z; is_one_so = O } in link_shown q g ls fine b of t A Phi D [] (links_begin r g b t A ls Phi M) (λ s h. omega arith)

    pub on_one : (t : ℕ) (Phi C : Part) (b : Block) → FactsAt q g ls (places.one t Phi C) (Some b) → (w : ℕ) (cs : List Condition)
        → (source_kernel r g b parts logs >>= λ K. option_map (λ W. equal C (times K W) ∷ []) (numbered parts w)) ≡ Some cs → Shows (after_link g.aim t Phi []) (Some b) cs
    on_one t Phi C b F w cs e =
        let made = λ (K W : Part). equal C (times K W) ∷ [] in
        let a = followed (source_kernel r g b parts logs) (λ K. option_map (made K) (numbered parts w)) cs e in
        let v = mapped (made a.0) (numbered parts w) cs a.2 in
        let A = F.1.0 in
        let i = subst (λ (x : MapSource). numbered x.block.kernels (suc x.repeat) ≡ Some a.0) (ap source_of A.aim_is) a.1 in
        subst (Shows (after_link g.aim t Phi []) (Some b)) v.2 ((tt, tt), λ all. unlinked t Phi b F.0 A F.1.2 F.1.3 (one_said r g b t A Phi C a.0 v.0 F.1.4 F.1.1 i all.0))

    pub on_notone : (t : ℕ) (Phi C : Part) (b : Block) → FactsAt q g ls (places.notone t Phi C) (Some b) → (n c : ℕ) (by : List ℕ) (cs : List Condition)
        → (source_kernel r g b parts logs >>= λ K. excluded r g b parts logs 0 K C n c by) ≡ Some cs → Shows (after_link g.aim t Phi []) (Some b) cs
    on_notone t Phi C b F n c by cs e =
        let a = followed (source_kernel r g b parts logs) (λ K. excluded r g b parts logs 0 K C n c by) cs e in
        let X = excluded_is q g ls fine parts good logs sound b 0 a.0 C n c by cs a.2 in
        let A = F.1.0 in
        let i = subst (λ (x : MapSource). numbered x.block.kernels (suc x.repeat) ≡ Some a.0) (ap source_of A.aim_is) a.1 in
        subst (Shows (after_link g.aim t Phi []) (Some b)) X.is ((X.sound_log, tt), λ all. unlinked t Phi b F.0 A F.1.2 F.1.3 (one_denied r g b t A Phi C a.0 X.log c by F.1.4 F.1.1 i X.some X.few all.0))

    -- `link r+1`
    linked : (t : ℕ) (Phi : Part) (found : List Part) (b : Block) (A : Sides r g b t) (D : Compared r g b t A ls Phi) → Links r g b t A ls Phi D.mapped found → (P : Part) → fits P ≡ true → (n x w : ℕ) (cs : List Condition)
        → on_link r g b parts logs Phi found P n x w ≡ Some cs → HaveSoundLogs r cs × (AllSay r cs → Links r g b t A ls Phi D.mapped (found ++ P ∷ []))
    linked t Phi found b A D K P f n x w cs e =
        let says = λ (U L : Part) (log : Log) (X W : Part). preimage log U (twist L 1) P X W in
        let u = followed (numbered b.morphism 1) (λ U. link_at r g b parts logs Phi found (length found) >>= λ L. generated r g b parts logs (says U L) n x w []) cs e in
        let l = followed (link_at r g b parts logs Phi found (length found)) (λ L. generated r g b parts logs (says u.0 L) n x w []) cs u.2 in
        let G = generated_is q g ls fine parts good logs sound b (says u.0 l.0) n x w [] cs l.2 in
        let m = link_is r g b t A ls Phi D.mapped parts logs found (length found) l.0 K.good l.1 in
        subst (λ cs. HaveSoundLogs r cs × (AllSay r cs → Links r g b t A ls Phi D.mapped (found ++ P ∷ []))) G.is
        ((G.sound_log, tt), λ all. link_named r g b t A ls Phi D.mapped found K P l.0 u.0 G.X G.W G.log f u.1 m.0 all.0)

    pub on_next_link : (t : ℕ) (Phi : Part) (found : List Part) (b : Block) → FactsAt q g ls (places.link t Phi found) (Some b) → (P : Part) → fits P ≡ true → (n x w : ℕ) (cs : List Condition)
        → on_link r g b parts logs Phi found P n x w ≡ Some cs → Shows (after_link g.aim t Phi (found ++ P ∷ [])) (Some b) cs
    on_next_link t Phi found b F P f n x w cs e =
        let A = F.1.0 in
        let few = F.1.5 in
        let S = linked t Phi found b A F.1.1 F.1.2 P f n x w cs e in (
          S.0,
          λ all. link_shown q g ls fine b F.0 t A Phi F.1.1 (found ++ P ∷ []) (S.1 all)
              (λ k h. let same : F.1.3 ≡ k = same_some (sym F.1.4 ∙ h) in let m = length-append found (P ∷ []) in omega (arith, few, same, m)),
        )

    pub on_open_link : (t : ℕ) (Phi : Part) (found : List Part) (b : Block) → FactsAt q g ls (places.open_link t Phi found) (Some b) → (P : Part) → fits P ≡ true → (n x w : ℕ) (cs : List Condition)
        → on_link r g b parts logs Phi found P n x w ≡ Some cs → Shows (places.open_link t Phi (found ++ P ∷ [])) (Some b) cs
    on_open_link t Phi found b F P f n x w cs e = let S = linked t Phi found b F.1.0 F.1.1 F.1.2 P f n x w cs e in (S.0, λ all. (F.0, (F.1.0, F.1.1, S.1 all, F.1.3)))

    pub on_closes : (t : ℕ) (Phi : Part) (found : List Part) (b : Block) → FactsAt q g ls (places.open_link t Phi found) (Some b) → nat_lt 0 (length found) ≡ true → (w : ℕ) (cs : List Condition)
        → (link_at r g b parts logs Phi found (length found - 1) >>= λ L. link_at r g b parts logs Phi found (length found) >>= λ last. option_map (λ W. equal last (times L W) ∷ []) (numbered parts w)) ≡ Some cs
        → Shows (places.never_onto t Phi found) (Some b) cs
    on_closes t Phi found b F some_found w cs e =
        let made = λ (L last W : Part). equal last (times L W) ∷ [] in
        let a = followed (link_at r g b parts logs Phi found (length found - 1)) (λ L. link_at r g b parts logs Phi found (length found) >>= λ last. option_map (made L last) (numbered parts w)) cs e in
        let d = followed (link_at r g b parts logs Phi found (length found)) (λ last. option_map (made a.0 last) (numbered parts w)) cs a.2 in
        let v = mapped (made a.0 d.0) (numbered parts w) cs d.2 in
        let A = F.1.0 in
        let D = F.1.1 in
        let K = F.1.2 in
        let before = link_is r g b t A ls Phi D.mapped parts logs found (length found - 1) a.0 K.good a.1 in
        let latest = link_is r g b t A ls Phi D.mapped parts logs found (length found) d.0 K.good d.1 in
        subst (Shows (places.never_onto t Phi found) (Some b)) v.2
        ((tt, tt), λ all. (F.0, (A, D, K, F.1.3, ltb-true 0 (length found) some_found, closed r g b t A ls Phi D.mapped found a.0 d.0 v.0 before.0 latest.0 all.0)))

    -- L_j isn't everything
    shortened : (t : ℕ) (Phi : Part) (found : List Part) (b : Block) (A : Sides r g b t) (D : Compared r g b t A ls Phi) → Links r g b t A ls Phi D.mapped found → (j : ℕ) → j ≤ length found → (n c : ℕ) (by : List ℕ) (cs : List Condition)
        → is_short r g b parts logs Phi found j n c by ≡ Some cs → HaveSoundLogs r cs × (AllSay r cs → ¬ (IsEverything r.prime r.vars (matrix_at r.prime r.vars (Members r g b t A ls Phi D.mapped found) j)))
    shortened t Phi found b A D K j few n c by cs e =
        let a = followed (link_at r g b parts logs Phi found j) (λ L. excluded r g b parts logs 0 L (unit_part r (rows_of L)) n c by) cs e in
        let X = excluded_is q g ls fine parts good logs sound b 0 a.0 (unit_part r (rows_of a.0)) n c by cs a.2 in
        let m = link_is r g b t A ls Phi D.mapped parts logs found j a.0 K.good a.1 in
        subst (λ cs. HaveSoundLogs r cs × (AllSay r cs → ¬ (IsEverything r.prime r.vars (matrix_at r.prime r.vars (Members r g b t A ls Phi D.mapped found) j)))) X.is
        ((X.sound_log, tt), λ all. link_short r g b t A ls Phi D.mapped found K j few a.0 X.log c by m.0 m.1 X.some X.few all.0)

    pub on_short : (t : ℕ) (Phi : Part) (found : List Part) (b : Block) → FactsAt q g ls (places.short t Phi found) (Some b) → (n c : ℕ) (by : List ℕ) (cs : List Condition)
        → is_short r g b parts logs Phi found (length found - 1) n c by ≡ Some cs → Shows (places.onto t Phi found) (Some b) cs
    on_short t Phi found b F n c by cs e =
        let A = F.1.0 in
        let D = F.1.1 in
        let S = shortened t Phi found b A D F.1.2 (length found - 1) (omega arith) n c by cs e in (
          S.0,
          λ all. (
            F.0,
            (
              A,
              D,
              F.1.2,
              F.1.3,
              λ k h. let same : length found - 1 ≡ k = omega (arith, h) in
                  subst (λ k. ¬ (IsEverything r.prime r.vars (matrix_at r.prime r.vars (Members r g b t A ls Phi D.mapped found) k))) same (S.1 all),
            ),
          ),
        )

    pub on_onto : (t : ℕ) (Phi : Part) (found : List Part) (b : Block) → FactsAt q g ls (places.onto t Phi found) (Some b) → (w : ℕ) (cs : List Condition)
        → (link_at r g b parts logs Phi found (length found) >>= λ L. option_map (λ W. equal (times L W) (unit_part r (rows_of L)) ∷ []) (numbered parts w)) ≡ Some cs → Shows places.end (Some b) cs
    on_onto t Phi found b F w cs e =
        let made = λ (L W : Part). equal (times L W) (unit_part r (rows_of L)) ∷ [] in
        let a = followed (link_at r g b parts logs Phi found (length found)) (λ L. option_map (made L) (numbered parts w)) cs e in
        let v = mapped (made a.0) (numbered parts w) cs a.2 in
        let A = F.1.0 in
        let D = F.1.1 in
        let K = F.1.2 in
        let m = link_is r g b t A ls Phi D.mapped parts logs found (length found) a.0 K.good a.1 in
        subst (Shows places.end (Some b)) v.2 (
          (tt, tt),
          λ all. map_shown q g ls fine b F.0 t A Phi D (Some (length found)) F.1.3
              (onto_right r g b t A ls Phi D.mapped found K (link_everything r g b t A ls Phi D.mapped found (length found) a.0 v.0 m.0 all.0) F.1.4),
        )

    pub on_never_onto : (t : ℕ) (Phi : Part) (found : List Part) (b : Block) → FactsAt q g ls (places.never_onto t Phi found) (Some b) → (n c : ℕ) (by : List ℕ) (cs : List Condition)
        → is_short r g b parts logs Phi found (length found - 1) n c by ≡ Some cs → Shows places.end (Some b) cs
    on_never_onto t Phi found b F n c by cs e =
        let A = F.1.0 in
        let D = F.1.1 in
        let K = F.1.2 in
        let S = shortened t Phi found b A D K (length found - 1) (omega arith) n c by cs e in
        (S.0, λ all. map_shown q g ls fine b F.0 t A Phi D None F.1.3 (never_onto_right r g b t A ls Phi D.mapped found K F.1.4 F.1.5 (S.1 all)))
