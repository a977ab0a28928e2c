-- The lines of parts are said, and the numbers of parts are right after them.
use Rattle.std.proofs.Common.{◌≡◌, ℕ, zero, suc, Bool, nat_eq, List, [], ◌∷◌, ◌++◌, length, Option, Some, None, option_map, refl, sym, ap, ap₂, ◌∙◌}
use Rattle.std.proofs.lemmas.Bool.{eq-eqb}
use Rattle.std.proofs.lemmas.List.{map-append}
use Rattle.fm_algebra.specs.Poly.{Some-same}
use Rattle.fm_words.specs.Words.{AreNames, same_bytes}
use Rattle.fm_words.specs.Options.{◌>>=◌, where_so}
use Rattle.fm_problem.specs.declared.problem.Problem.{Problem}
use Rattle.fm_problem.specs.declared.query.Query.{Query}
use Rattle.fm_cert.specs.Writable.{IsWritableLine}
use Rattle.fm_report.specs.Parts.{Part}
use Rattle.fm_report.specs.Parts as parts
use Rattle.fm_report.specs.Sheets.{Answer, Sheet, numbered, one_part, say_part, say}
use Rattle.fm_report.specs.Reading.{stated_by}
use Rattle.fm_report.specs.Holding.{AllHold}
use Rattle.fm_standard.specs.Small.{AreSmallLines}
use Rattle.fm_standard.specs.Writing.{Shelf, Written, place_from, form_at, form_written, written_then, part_written}
use Rattle.fm_standard.proofs.SmallLines.{small_append, small_line}
use Rattle.fm_standard.specs.Said.{IsWritablePart, Laid, under}
use Rattle.fm_standard.proofs.Steps.{Leads, leads_nowhere, leads_append, plain_leads}
use Rattle.fm_standard.proofs.Forms.{IsGrown, not_grown, grown_on, still_numbered, last_part, Form, given, twist, flip, beside, stack, times, pick, form_line, made, still_made, columns_back}
use Rattle.fm_standard.proofs.Shelves.{one_more, counted, text_of, IsShelf, all_kept, all_added, shelf_count, found}
use Rattle.fm_standard.proofs.FormTexts.{IsProper, same_form, form_small, number_less, proper_written}

module _ (q : Problem) (h : AreNames q.vars) (l : length q.vars ≡ q.ring.vars) (z : Query) (k : ℕ) (answer : Answer) where
  -- after these lines a part has its number
  pub record Named (ps : List Part) (w : Written) (a : Part) : Type 0 where
    pub parts : List Part
    pub grown : IsGrown ps parts
    pub shelf : IsShelf q h l z w.shelf parts
    pub here : numbered parts w.number ≡ Some a
    pub leads : (c : Laid) → Leads q h l k z answer ps c w.lines parts c

  form_quiet : (s : Sheet) (f : Form) (n : ℕ) → AllHold (stated_by s (form_line f n))
  form_quiet s (given rows columns) n = tt
  form_quiet s (twist a e) n = tt
  form_quiet s (flip a) n = tt
  form_quiet s (beside a b) n = tt
  form_quiet s (stack a b) n = tt
  form_quiet s (times a b) n = tt
  form_quiet s (pick a columns) n = tt

  say_form : (ps : List Part) (c : Laid) (f : Form) (n : ℕ)
      → say (under q k z answer ps c) (form_line f n) ≡ where_so (nat_eq n (suc (length ps))) (option_map (λ x. under q k z answer (ps ++ x ∷ []) c) (made ps f))
  unfolding under say
  say_form ps c (given rows columns) n = refl
  say_form ps c (twist a e) n = refl
  say_form ps c (flip a) n = refl
  say_form ps c (beside a b) n = refl
  say_form ps c (stack a b) n = refl
  say_form ps c (times a b) n = refl
  say_form ps c (pick a columns) n =
      ap (λ o. say_part (under q k z answer ps c) n (o >>= λ js. one_part (under q k z answer ps c) (λ x. parts.pick x js) a)) (columns_back columns)

  form_said : (ps : List Part) (c : Laid) (f : Form) (n : ℕ) (x : Part) → n ≡ suc (length ps) → made ps f ≡ Some x
      → say (under q k z answer ps c) (form_line f n) ≡ Some (under q k z answer (ps ++ x ∷ []) c)
  form_said ps c f n x e m =
      say_form ps c f n ∙ ap₂ (λ (t : Bool) o. where_so t (option_map (λ x. under q k z answer (ps ++ x ∷ []) c) o)) (eq-eqb n (suc (length ps)) e) m

  -- a form that makes a part of those that have numbers
  pub form_named : (s : Shelf) (ps : List Part) (f : Form) (x : Part) → IsShelf q h l z s ps → IsProper q h l z f → made ps f ≡ Some x
      → AreSmallLines (form_written q.vars (form_line f) s).lines → Named ps (form_written q.vars (form_line f) s) x
  unfolding form_written
  form_named s ps f x i p m small = by (place_from zero (λ text. same_bytes text (text_of q h l z f)) s.forms) refl small
    where
      by : (o : Option ℕ) → place_from zero (λ text. same_bytes text (text_of q h l z f)) s.forms ≡ o → AreSmallLines (form_at q.vars (form_line f) s o).lines → Named ps (form_at q.vars (form_line f) s o) x
      by (Some n) is small =
          let g = found q h l z (text_of q h l z f) zero n ps i.forms ps i.made (ap (place_from zero (λ text. same_bytes text (text_of q h l z f))) (sym i.texts) ∙ is) in
          let same : f ≡ g.form = same_form q h l z f g.form p (proper_written q h l z g.form g.writable) g.writable (sym g.same) in
          let part : x ≡ g.part = Some-same (sym m ∙ ap (made ps) same ∙ g.made) in
          record {
            parts = ps;
            grown = not_grown ps;
            shelf = i;
            here = ap (numbered ps) (g.counts ∙ counted (suc g.spot)) ∙ g.here ∙ ap Some (sym part);
            leads = λ c. leads_nowhere q h l k z answer ps c;
          }
      by None is small =
          let n = suc (length s.forms) in
          let count : suc (length s.forms) ≡ suc (length ps) = ap suc (shelf_count q h l z s ps i) in
          let w : IsWritableLine q.ring (Some z) (form_line f n) = form_small q h l z f n p (small_line (form_line f n) [] small).0 in
          record {
            parts = ps ++ x ∷ [];
            grown = record { more = x ∷ []; is = refl };
            shelf = record {
              forms = i.forms ++ f ∷ [];
              texts = ap (λ ts. ts ++ text_of q h l z f ∷ []) i.texts ∙ sym (map-append (text_of q h l z) i.forms (f ∷ []));
              made = all_added q h l z (ps ++ x ∷ []) f x i.forms ps (all_kept q h l z ps x i.forms ps i.made) (still_made ps (x ∷ []) f x m) (number_less q h l z f n w);
            };
            here = ap (numbered (ps ++ x ∷ [])) (count ∙ one_more (length ps)) ∙ last_part ps x;
            leads = λ c. plain_leads q h l k z answer ps (ps ++ x ∷ []) c c (form_line f n) w (form_said ps c f n x count m) (form_quiet (under q k z answer ps c) f n);
          }

  -- what is written after a part
  then_named : (ps : List Part) (w : Written) (a b : Part) (next : ℕ → Shelf → Written) → AreSmallLines (written_then w next).lines
      → (AreSmallLines w.lines → Named ps w a)
      → ((es : List Part) → IsGrown ps es → IsShelf q h l z w.shelf es → numbered es w.number ≡ Some a → AreSmallLines (next w.number w.shelf).lines → Named es (next w.number w.shelf) b)
      → Named ps (written_then w next) b
  then_named ps w a b next small first second =
      let v = next w.number w.shelf in
      let each = small_append w.lines v.lines small in
      let f = first each.0 in
      let r = second f.parts f.grown f.shelf f.here each.1 in
      record {
        parts = r.parts;
        grown = grown_on ps f.parts r.parts f.grown r.grown;
        shelf = r.shelf;
        here = r.here;
        leads = λ c. leads_append q h l k z answer ps f.parts r.parts c c c w.lines v.lines (f.leads c) (r.leads c);
      }

  two_made : (es : List Part) (f : Part → Part → Part) (j n : ℕ) (a b : Part) → numbered es j ≡ Some a → numbered es n ≡ Some b → (numbered es j >>= λ x. option_map (f x) (numbered es n)) ≡ Some (f a b)
  two_made es f j n a b u v = ap₂ (λ o p. o >>= λ x. option_map (f x) p) u v

  -- two parts, and what is made of them
  two_named : (s : Shelf) (ps : List Part) (a b : Part) (make : Part → Part → Part) (form : ℕ → ℕ → Form)
      → AreSmallLines (written_then (part_written q.vars a s) (λ j t. written_then (part_written q.vars b t) (λ m. form_written q.vars (form_line (form j m))))).lines
      → (AreSmallLines (part_written q.vars a s).lines → Named ps (part_written q.vars a s) a)
      → ((t : Shelf) (es : List Part) → IsShelf q h l z t es → AreSmallLines (part_written q.vars b t).lines → Named es (part_written q.vars b t) b)
      → ((j m : ℕ) → IsProper q h l z (form j m))
      → ((es : List Part) (j m : ℕ) → numbered es j ≡ Some a → numbered es m ≡ Some b → made es (form j m) ≡ Some (make a b))
      → Named ps (written_then (part_written q.vars a s) (λ j t. written_then (part_written q.vars b t) (λ m. form_written q.vars (form_line (form j m))))) (make a b)
  two_named s ps a b make form small first second proper made =
      let v = part_written q.vars a s in
      let w = part_written q.vars b v.shelf in
      then_named ps v a (make a b) (λ j t. written_then (part_written q.vars b t) (λ m. form_written q.vars (form_line (form j m)))) small first
      (λ es grown i here some. then_named es w b (make a b) (λ m. form_written q.vars (form_line (form v.number m))) some (second v.shelf es i)
      (λ fs more i there. form_named w.shelf fs (form v.number w.number) (make a b) i (proper v.number w.number) (made fs v.number w.number (still_numbered es fs more v.number a here) there)))

  -- a part and all that it is made of
  pub part_named : (x : Part) (s : Shelf) (ps : List Part) → IsWritablePart q.ring x → IsShelf q h l z s ps → AreSmallLines (part_written q.vars x s).lines → Named ps (part_written q.vars x s) x
  part_named (parts.given rows columns) s ps w i small = form_named s ps (given rows columns) (parts.given rows columns) i w refl small
  part_named (parts.twist a e) s ps w i small =
      then_named ps (part_written q.vars a s) a (parts.twist a e) (λ j. form_written q.vars (form_line (twist j e))) small (part_named a s ps w.0 i)
      (λ es g i here. form_named (part_written q.vars a s).shelf es (twist (part_written q.vars a s).number e) (parts.twist a e) i w.1 (ap (option_map (λ x. parts.twist x e)) here))
  part_named (parts.flip a) s ps w i small =
      then_named ps (part_written q.vars a s) a (parts.flip a) (λ j. form_written q.vars (form_line (flip j))) small (part_named a s ps w i)
      (λ es g i here. form_named (part_written q.vars a s).shelf es (flip (part_written q.vars a s).number) (parts.flip a) i tt (ap (option_map parts.flip) here))
  part_named (parts.beside a b) s ps w i small =
      two_named s ps a b parts.beside beside small (part_named a s ps w.0 i) (λ t es. part_named b t es w.1)
      (λ j m. tt) (λ es j m u v. two_made es parts.beside j m a b u v)
  part_named (parts.stack a b) s ps w i small =
      two_named s ps a b parts.stack stack small (part_named a s ps w.0 i) (λ t es. part_named b t es w.1)
      (λ j m. tt) (λ es j m u v. two_made es parts.stack j m a b u v)
  part_named (parts.times a b) s ps w i small =
      two_named s ps a b parts.times times small (part_named a s ps w.0 i) (λ t es. part_named b t es w.1)
      (λ j m. tt) (λ es j m u v. two_made es parts.times j m a b u v)
  part_named (parts.pick a columns) s ps w i small =
      then_named ps (part_written q.vars a s) a (parts.pick a columns) (λ j. form_written q.vars (form_line (pick j columns))) small (part_named a s ps w.0 i)
      (λ es g i here. form_named (part_written q.vars a s).shelf es (pick (part_written q.vars a s).number columns) (parts.pick a columns) i w.1 (ap (option_map (λ x. parts.pick x columns)) here))
