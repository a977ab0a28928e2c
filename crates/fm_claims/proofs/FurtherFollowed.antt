-- What is found on inverting, on the support and on maps follows the table, where the table says the same.
use Rattle.std.proofs.Common.{◌≡◌, ℕ, true, List, [], ◌∷◌, ◌++◌, length, Option, Some, None, Vec, Result, Ok, Err, refl, sym, ap, ◌∙◌, subst}
use Rattle.std.specs.Prelude.{IfOk}
use Rattle.std.specs.Global.{Global}
use Rattle.std.proofs.lemmas.Bool.{and_parts, and_from}
use Rattle.std.proofs.lemmas.List.{length-map}
use Rattle.fm_poly.specs.declared.ring.Ring.{Ring}
use Rattle.fm_report.specs.Parts.{Part}
use Rattle.fm_parts.specs.Conditions.{Condition}
use Rattle.fm_parts.specs.Replays.{is_number, are_numbers}
use Rattle.fm_judge.specs.Claims.{Claim}
use Rattle.fm_judge.specs.Places as places
use Rattle.fm_pres.specs.Tables.{part_at}
use Rattle.fm_pres.specs.Blocks.{parts_at}
use Rattle.fm_conditions.specs.Meanings.{logs_of, condition_of, IsCondition, AreConditions, IsFormable, AreFormable}
use Rattle.fm_conditions.specs.declared.condition.Condition as program
use Rattle.fm_conditions.specs.declared.kept_log.KeptLog.{KeptLog}
use Rattle.fm_places.specs.declared.aim.Aim.{Aim}
use Rattle.fm_claims.specs.declared.claimed.Claimed.{Claimed}
use Rattle.fm_claims.specs.declared.claimed.Claimed.TheVariants.{Reference}
use Rattle.fm_places.specs.declared.place.Place.{Place}
use Rattle.fm_places.specs.Meanings.{place_of}
use Rattle.fm_claims.specs.Views.{conditions_of}
use Rattle.fm_claims.specs.Following.{Follows}
use Rattle.fm_claims.specs.Named.{Finds, FindsAll, IsFormableIf, Names}
pub use Rattle.fm_claims.proofs.Followed.{numbers_in}

pub parts_count : (ps : List Part) (ks : List ℕ) → length (parts_at ps ks) ≡ length ks
parts_count ps ks = length-map ks (part_at ps)

pub parts_more : (ps : List Part) (ks : List ℕ) (k : ℕ) → parts_at ps (ks ++ k ∷ []) ≡ parts_at ps ks ++ part_at ps k ∷ []
parts_more ps [] k = refl
parts_more ps (i ∷ ks) k = ap (λ xs. part_at ps i ∷ xs) (parts_more ps ks k)

pub numbers_more : {A : Type 0} (xs : List A) (ks : List ℕ) (k : ℕ) → are_numbers xs ks ≡ true → is_number xs k ≡ true → are_numbers xs (ks ++ k ∷ []) ≡ true
numbers_more xs [] k a n = and_from (is_number xs k) true n refl
numbers_more xs (i ∷ ks) k a n =
    let h = and_parts (is_number xs i) (are_numbers xs ks) a in and_from (is_number xs i) (are_numbers xs (ks ++ k ∷ [])) h.0 (numbers_more xs ks k h.1 n)

module _ (r : Ring) (ps : List Part) (ls : List KeptLog) where
  -- ---- claims
  module _ (aim : Aim) where
    pub same_claim : (found : Claimed) (claimed : Option Claim) (cs ds : Option (List Condition)) (next : places.Place) (place : Place)
        → claimed ≡ Some (record { conditions = cs; next = next }) → cs ≡ ds → place_of r ps aim place ≡ next
        → Follows r ps ls aim (Some (record { conditions = ds; next = place_of r ps aim place })) found → Follows r ps ls aim claimed found
    same_claim found claimed cs ds next place e c p h =
        subst (λ x. Follows r ps ls aim x found) (sym e)
        (subst (λ x. Follows r ps ls aim (Some (record { conditions = x; next = next })) found) (sym c)
        (subst (λ x. Follows r ps ls aim (Some (record { conditions = ds; next = x })) found) p h))

    pub same_claim_ok : {E : Type 0} (found : Result Claimed E) (claimed : Option Claim) (cs ds : Option (List Condition)) (next : places.Place) (place : Place)
        → claimed ≡ Some (record { conditions = cs; next = next }) → cs ≡ ds → place_of r ps aim place ≡ next
        → IfOk found (Follows r ps ls aim (Some (record { conditions = ds; next = place_of r ps aim place }))) → IfOk found (Follows r ps ls aim claimed)
    same_claim_ok (Ok found) claimed cs ds next place e c p h = same_claim found claimed cs ds next place e c p h
    same_claim_ok (Err why) claimed cs ds next place e c p h = tt

  -- ---- conditions
  pub finds_none : (claimed : Option (List Condition)) → claimed ≡ None → Finds r ps ls claimed None
  finds_none claimed e = record { same = e; testable = tt; formable = tt }

  pub finds_this : (claimed : Option (List Condition)) (c : program.Condition) → claimed ≡ Some (condition_of r ps (logs_of ps ls) c ∷ [])
      → IsCondition r ps ls c → IsFormable r ps c → Finds r ps ls claimed (Some c)
  finds_this claimed c e t f = record { same = e; testable = t; formable = f }

  pub names_none : (claimed : Option (List Condition)) → claimed ≡ None → Names r ps ls claimed None
  names_none claimed e = record { same = e; testable = tt }

  pub all_none : (claimed : Option (List Condition)) → claimed ≡ None → FindsAll r ps ls claimed None
  all_none claimed e = record { same = e; testable = tt; formable = tt }

  pub all_these : (claimed : Option (List Condition)) (cs : Vec program.Condition Global) (ds : List program.Condition) → cs.items ≡ ds
      → claimed ≡ Some (conditions_of r ps (logs_of ps ls) ds) → AreConditions r ps ls ds → AreFormable r ps (logs_of ps ls) ds → FindsAll r ps ls claimed (Some cs)
  all_these claimed cs ds i e t f = record {
    same = e ∙ ap (λ xs. Some (conditions_of r ps (logs_of ps ls) xs)) (sym i);
    testable = subst (λ xs. AreConditions r ps ls xs) (sym i) t;
    formable = subst (λ xs. AreFormable r ps (logs_of ps ls) xs) (sym i) f;
  }

  pub found_and_formed : {E : Type 0} (found : Result (Option program.Condition) E) (claimed : Option (List Condition))
      → IfOk found (Names r ps ls claimed) → IfOk found (IsFormableIf r ps) → IfOk found (Finds r ps ls claimed)
  found_and_formed (Ok o) claimed n f = record { same = n.same; testable = n.testable; formable = f }
  found_and_formed (Err why) claimed n f = tt

  pub found_as : {E : Type 0} (found : Result (Option program.Condition) E) (claimed other : Option (List Condition)) → claimed ≡ other
      → IfOk found (Finds r ps ls other) → IfOk found (Finds r ps ls claimed)
  found_as found claimed other e h = subst (λ x. IfOk found (Finds r ps ls x)) (sym e) h

-- ---- claims of what was found
module _ (r : Ring) (ps : List Part) (ls : List KeptLog) (aim : Aim) where
  pub claim_found_all : (claimed : Option (List Condition)) (conditions : Option (Vec program.Condition Global)) (cs : Vec program.Condition Global) (next : Place) (found : Claimed)
      → FindsAll r ps ls claimed conditions → conditions ≡ Some cs
      → (AreConditions r ps ls cs.items → AreFormable r ps (logs_of ps ls) cs.items
      → Follows r ps ls aim (Some (record { conditions = Some (conditions_of r ps (logs_of ps ls) cs.items); next = place_of r ps aim next })) found)
      → Follows r ps ls aim (Some (record { conditions = claimed; next = place_of r ps aim next })) found
  claim_found_all claimed conditions cs next found f e h =
      let k = subst (λ (o : Option (Vec program.Condition Global)). FindsAll r ps ls claimed o) e f in
      subst (λ (x : Option (List Condition)). Follows r ps ls aim (Some (record { conditions = x; next = place_of r ps aim next })) found) (sym k.same) (h k.testable k.formable)

  pub claim_found : {E : Type 0} (claimed : Option (List Condition)) (condition : Option program.Condition) (c : program.Condition) (next : Place) (found : Result Claimed E)
      → Finds r ps ls claimed condition → condition ≡ Some c
      → (IsCondition r ps ls c → IsFormable r ps c
      → IfOk found (Follows r ps ls aim (Some (record { conditions = Some (condition_of r ps (logs_of ps ls) c ∷ []); next = place_of r ps aim next }))))
      → IfOk found (Follows r ps ls aim (Some (record { conditions = claimed; next = place_of r ps aim next })))
  claim_found claimed condition c next found f e h =
      let k = subst (λ (o : Option program.Condition). Finds r ps ls claimed o) e f in
      subst (λ (x : Option (List Condition)). IfOk found (Follows r ps ls aim (Some (record { conditions = x; next = place_of r ps aim next })))) (sym k.same) (h k.testable k.formable)

  -- what is not found
  pub claim_missing : (claimed : Option (List Condition)) (condition : Option program.Condition) (next : places.Place) → Finds r ps ls claimed condition → condition ≡ None
      → Follows r ps ls aim (Some (record { conditions = claimed; next = next })) Reference
  claim_missing claimed condition next f e =
      let k = subst (λ (o : Option program.Condition). Finds r ps ls claimed o) e f in
      record { claim = k.same; sound = tt }

  pub claims_missing : (claimed : Option (List Condition)) (conditions : Option (Vec program.Condition Global)) (next : places.Place) → FindsAll r ps ls claimed conditions → conditions ≡ None
      → Follows r ps ls aim (Some (record { conditions = claimed; next = next })) Reference
  claims_missing claimed conditions next f e =
      let k = subst (λ (o : Option (Vec program.Condition Global)). FindsAll r ps ls claimed o) e f in
      record { claim = k.same; sound = tt }
