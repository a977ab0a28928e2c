-- Generators are read one after another.
use Rattle.std.proofs.Common.{◌≡◌, ◌++◌, Bool, true, false, List, [], ◌∷◌, Option, Some, None, refl, sym, ap, ◌∙◌, append_assoc}
use Rattle.std.specs.Prelude.{if◌then◌else◌, option_map}
use Rattle.fm_poly.specs.Polys.{PolyValue}
use Rattle.fm_poly.specs.declared.ring.Ring.{Ring}
use Rattle.fm_poly.specs.declared.term.Term.{Term}
use Rattle.fm_vec.specs.Components.{AreOver}
use Rattle.fm_words.specs.Options.{◌>>=◌}
use Rattle.fm_words.specs.Parts.{Bytes, parts}
use Rattle.fm_words.specs.Words.{is_empty}
use Rattle.fm_words.specs.declared.mark.Mark.TheVariants.{Comma}
use Rattle.fm_cert.specs.Fields.{without_comma, read_polynomial, generators_of, unless_zero, nonzero}
use Rattle.fm_lines.specs.GeneratorWords.{generator_of}

nonzero_first : (f : PolyValue) (ts : List Term) (fs : List PolyValue) → unless_zero f ts fs ≡ unless_zero f ts [] ++ fs
nonzero_first f [] fs = refl
nonzero_first f (t ∷ ts) fs = refl

after_one : (kept : List PolyValue) (f : PolyValue) (fs : List PolyValue) → kept ++ nonzero (f ∷ fs) ≡ (kept ++ nonzero (f ∷ [])) ++ nonzero fs
after_one kept f fs = ap (λ v. kept ++ v) (nonzero_first f f.terms (nonzero fs)) ∙ sym (append_assoc kept (nonzero (f ∷ [])) (nonzero fs))

one_over : (r : Ring) (f : PolyValue) (ts : List Term) → f.ring ≡ r → AreOver r (unless_zero f ts [])
one_over r f [] h = tt
one_over r f (t ∷ ts) h = (h, tt)

over_append : (r : Ring) (fs gs : List PolyValue) → AreOver r fs → AreOver r gs → AreOver r (fs ++ gs)
over_append r [] gs a b = b
over_append r (f ∷ fs) gs a b = (a.0, over_append r fs gs a.1 b)

pub over_kept : (r : Ring) (kept : List PolyValue) (f : PolyValue) → f.ring ≡ r → AreOver r kept → AreOver r (kept ++ nonzero (f ∷ []))
over_kept r kept f h over = over_append r kept (nonzero (f ∷ [])) over (one_over r f f.terms h)

pub over_more : (r : Ring) (fs : List PolyValue) (f : PolyValue) → f.ring ≡ r → AreOver r fs → AreOver r (fs ++ f ∷ [])
over_more r fs f h over = over_append r fs (f ∷ []) over (h, tt)

pub entries_more : (found : List PolyValue) (f : PolyValue) (o : Option (List PolyValue))
    → option_map (λ fs. found ++ fs) (option_map (λ fs. f ∷ fs) o) ≡ option_map (λ fs. (found ++ f ∷ []) ++ fs) o
entries_more found f None = refl
entries_more found f (Some fs) = ap Some (sym (append_assoc found (f ∷ []) fs))

module _ (r : Ring) (names : List Bytes) where
  -- one generator, and those after it
  abbrev pub with_rest : List Bytes → PolyValue → Option (List PolyValue)
  with_rest ws f = if is_empty ws then Some (f ∷ []) else option_map (λ fs. f ∷ fs) (generators_of r names ws)

  as_one : (o : Option PolyValue) → option_map (λ f. f ∷ []) o ≡ (o >>= λ f. Some (f ∷ []))
  as_one None = refl
  as_one (Some f) = refl

  in_turn : {B : Type 0} (o : Option Bytes) (g : PolyValue → Option B) → (o >>= λ u. read_polynomial r names u >>= g) ≡ ((o >>= read_polynomial r names) >>= g)
  in_turn None g = refl
  in_turn (Some u) g = refl

  pub step : (w : Bytes) (ws : List Bytes) → generators_of r names (w ∷ ws) ≡ (generator_of r names (is_empty ws) w >>= with_rest ws)
  step w [] = as_one (read_polynomial r names w)
  step w (v ∷ ws) = in_turn (without_comma (parts Comma w)) (with_rest (v ∷ ws))

  -- what is read where these are kept and those are left
  abbrev pub reads : List PolyValue → List Bytes → Option (List PolyValue)
  reads kept us = option_map (λ fs. kept ++ nonzero fs) (generators_of r names us)

  step_in : (kept : List PolyValue) (us : List Bytes) (w : Bytes) (ws : List Bytes) (last : Bool) (o : Option PolyValue) → us ≡ w ∷ ws → last ≡ is_empty ws → o ≡ generator_of r names last w
      → reads kept us ≡ option_map (λ fs. kept ++ nonzero fs) (o >>= with_rest ws)
  step_in kept us w ws last o e l g =
      ap (reads kept) e ∙ ap (option_map (λ fs. kept ++ nonzero fs)) (step w ws ∙ ap (λ v. v >>= with_rest ws) (sym (g ∙ ap (λ t. generator_of r names t w) l)))

  pub stop : (kept : List PolyValue) (us : List Bytes) (w : Bytes) (ws : List Bytes) (last : Bool) (all : Option (List PolyValue)) → us ≡ w ∷ ws → last ≡ is_empty ws
      → None ≡ generator_of r names last w → reads kept us ≡ all → None ≡ all
  stop kept us w ws last all e l g i = sym (step_in kept us w ws last None e l g) ∙ i

  pub finish : (kept new : List PolyValue) (us : List Bytes) (w : Bytes) (ws : List Bytes) (last : Bool) (f : PolyValue) (all : Option (List PolyValue)) → us ≡ w ∷ ws → last ≡ is_empty ws
      → Some f ≡ generator_of r names last w → last ≡ true → new ≡ kept ++ nonzero (f ∷ []) → reads kept us ≡ all → Some new ≡ all
  finish kept new us w ws last f all e l g t n i =
      ap Some n ∙ sym (ap (λ b. option_map (λ fs. kept ++ nonzero fs) (if b then Some (f ∷ []) else option_map (λ fs. f ∷ fs) (generators_of r names ws))) (sym l ∙ t))
      ∙ sym (step_in kept us w ws last (Some f) e l g) ∙ i

  pub more : (kept : List PolyValue) (f : PolyValue) (o : Option (List PolyValue))
      → option_map (λ fs. kept ++ nonzero fs) (option_map (λ fs. f ∷ fs) o) ≡ option_map (λ fs. (kept ++ nonzero (f ∷ [])) ++ nonzero fs) o
  more kept f None = refl
  more kept f (Some fs) = ap Some (after_one kept f fs)

  pub go_on : (kept new : List PolyValue) (us : List Bytes) (w : Bytes) (ws : List Bytes) (last : Bool) (f : PolyValue) (all : Option (List PolyValue)) → us ≡ w ∷ ws → last ≡ is_empty ws
      → Some f ≡ generator_of r names last w → last ≡ false → new ≡ kept ++ nonzero (f ∷ []) → reads kept us ≡ all → reads new ws ≡ all
  go_on kept new us w ws last f all e l g t n i =
      ap (λ v. reads v ws) n ∙ sym (more kept f (generators_of r names ws))
      ∙ sym (ap (λ b. option_map (λ fs. kept ++ nonzero fs) (if b then Some (f ∷ []) else option_map (λ fs. f ∷ fs) (generators_of r names ws))) (sym l ∙ t))
      ∙ sym (step_in kept us w ws last (Some f) e l g) ∙ i
