-- Judgements that go step by step.
use Rattle.std.specs.declared.alloc.Global.{Global}
use Rattle.std.specs.declared.rc.Rc.{Rc}
use Rattle.std.proofs.Common.{◌≡◌, Bool, true, false, Some, Result, Ok, Err, refl, sym, ap, ◌∙◌, subst}
use Rattle.fm_words.specs.Steps.{◌>>=◌, or_fault}
use Rattle.fm_words.specs.Options.{where_so}
use Rattle.fm_poly.specs.declared.ring.Ring.{Ring}
use Rattle.fm_mat.specs.Matrices.{MatrixValue, matrix_meaning}
use Rattle.fm_graphs.specs.Graphs.{MatrixOf}
use Rattle.fm_report.specs.Parts.{Part, part_value}
use Rattle.fm_parts.specs.Values.{is_within_bound, value_of}
use Rattle.fm_parts.specs.Replays.{Reason, Exponents, needs}
use Rattle.fm_parts.specs.Conditions.{evaluated}
use Rattle.fm_pres.specs.Kept.{IsValue}
use Rattle.fm_conditions.specs.declared.why.Refused.{Refused}
use Rattle.fm_conditions.specs.declared.why.Refused.TheVariants.{Memory, Bad}
use Rattle.fm_conditions.specs.Reasons.{Judges, reason_of}

-- what is judged: a value, and whether a test is met
abbrev pub value_view : (r : Ring) → Rc MatrixValue Global → MatrixOf r
value_view r m = matrix_meaning r m.value

abbrev pub end_view : Unit {0} → Unit {0}
end_view u = tt

module _ {A B : Type 0} where
  pub goes_on : (x : Result A Reason) (a : A) (f : A → Result B Reason) → x ≡ Ok a → (x >>= f) ≡ f a
  goes_on x a f e = ap (λ y. y >>= f) e

  pub ends_here : (x : Result A Reason) (why : Reason) (f : A → Result B Reason) → x ≡ Err why → (x >>= f) ≡ Err why
  ends_here x why f e = ap (λ y. y >>= f) e

pub grouped : {A B C : Type 0} (x : Result A Reason) (f : A → Result B Reason) (g : B → Result C Reason) → ((x >>= f) >>= g) ≡ (x >>= λ a. f a >>= g)
grouped (Ok a) f g = refl
grouped (Err why) f g = refl

-- what is judged of an equal judgement
pub judged_so : {A B : Type 0} (view : A → B) (x : Result A Refused) (p q : Result B Reason) → p ≡ q → Judges view x p → Judges view x q
judged_so view x p q e h = subst (Judges view x) e h

pub need_met : (b : Bool) (why : Reason) → b ≡ true → needs b why ≡ Ok (tt {0})
need_met true why e = refl
need_met false why e = absurd (cc e)

pub need_failed : (b : Bool) (why : Reason) → b ≡ false → needs b why ≡ Err why
need_failed false why e = refl
need_failed true why e = absurd (cc e)

module _ (r : Ring) (a : Part) where
  pub evaluated_is : (m : MatrixValue) → IsValue r a m → evaluated r a ≡ Ok (matrix_meaning r m)
  unfolding value_of
  evaluated_is m v = ap (λ b. or_fault Exponents (where_so b (Some (part_value r a)))) v.within ∙ ap (λ (A : MatrixOf r). Ok A) (sym v.meaning)

  pub evaluated_not : is_within_bound r a ≡ false → evaluated r a ≡ Err Exponents
  unfolding value_of
  evaluated_not w = ap (λ b. or_fault Exponents (where_so b (Some (part_value r a)))) w

-- ---- steps of a judgement

-- a step that is refused ends it
pub refused_first : {A B C D : Type 0} (view : A → B) (later : C → D) (why : Refused) (p : Result B Reason) (f : B → Result D Reason) → Judges view (Err why) p → Judges later (Err why) (p >>= f)
refused_first view later Memory p f h = tt
refused_first view later (Bad why) p f h = ends_here p (reason_of why) f h

-- after a step that ends well it goes on
pub judged_next : {B C D : Type 0} (later : C → D) (x : Result C Refused) (p : Result B Reason) (b : B) (f : B → Result D Reason) → p ≡ Ok b → Judges later x (f b) → Judges later x (p >>= f)
judged_next later x p b f e h = subst (Judges later x) (sym (goes_on p b f e)) h

-- what ends so is judged so of another value
pub judged_again : {A B C : Type 0} (view : A → B) (later : C → B) (why : Refused) (p : Result B Reason) → Judges view (Err why) p → Judges later (Err why) p
judged_again view later Memory p h = tt
judged_again view later (Bad why) p h = h
