-- Places on inverting, on the support and on maps, one by one.
use Rattle.std.proofs.Common.{◌≡◌, ℕ, Vec, refl}
use Rattle.std.specs.Global.{Global}
use Rattle.fm_places.specs.declared.place.Place.{Place}
use Rattle.fm_places.specs.declared.place.Place.TheVariants as program
use Rattle.fm_claims.specs.Further.{IsFurther, IsOfMap}

pub of_map : (place : Place)
    → ((t k : ℕ) → place ≡ program.Power t k → ⊥)
    → ((t k : ℕ) → place ≡ program.Least t k → ⊥)
    → ((t : ℕ) (found : Vec ℕ Global) → place ≡ program.Colon t found → ⊥)
    → ((t : ℕ) (found : Vec ℕ Global) → place ≡ program.ProperColon t found → ⊥)
    → ((t : ℕ) → place ≡ program.Annihilator t → ⊥)
    → IsFurther place → IsOfMap place
of_map (program.Power t k) n0 n1 n2 n3 n4 h = absurd (n0 t k refl)
of_map (program.Least t k) n0 n1 n2 n3 n4 h = absurd (n1 t k refl)
of_map (program.Colon t found) n0 n1 n2 n3 n4 h = absurd (n2 t found refl)
of_map (program.ProperColon t found) n0 n1 n2 n3 n4 h = absurd (n3 t found refl)
of_map (program.Annihilator t) n0 n1 n2 n3 n4 h = absurd (n4 t refl)
of_map place n0 n1 n2 n3 n4 h = h

pub no_other : (place : Place)
    → ((t : ℕ) (identity : Vec ℕ Global) → place ≡ program.Lambda t identity → ⊥)
    → ((t : ℕ) (identity : Vec ℕ Global) → place ≡ program.Phi t identity → ⊥)
    → ((t phi : ℕ) → place ≡ program.Null t phi → ⊥)
    → ((t phi : ℕ) → place ≡ program.NonNull t phi → ⊥)
    → ((t phi : ℕ) → place ≡ program.Fibre t phi → ⊥)
    → ((t phi c : ℕ) → place ≡ program.One t phi c → ⊥)
    → ((t phi c : ℕ) → place ≡ program.NotOne t phi c → ⊥)
    → ((t phi : ℕ) (found : Vec ℕ Global) → place ≡ program.Link t phi found → ⊥)
    → ((t phi : ℕ) (found : Vec ℕ Global) → place ≡ program.OpenLink t phi found → ⊥)
    → ((t phi : ℕ) (found : Vec ℕ Global) → place ≡ program.Short t phi found → ⊥)
    → ((t phi : ℕ) (found : Vec ℕ Global) → place ≡ program.Onto t phi found → ⊥)
    → ((t phi : ℕ) (found : Vec ℕ Global) → place ≡ program.NeverOnto t phi found → ⊥)
    → IsOfMap place → ⊥
no_other (program.Lambda t identity) n0 n1 n2 n3 n4 n5 n6 n7 n8 n9 n10 n11 h = absurd (n0 t identity refl)
no_other (program.Phi t identity) n0 n1 n2 n3 n4 n5 n6 n7 n8 n9 n10 n11 h = absurd (n1 t identity refl)
no_other (program.Null t phi) n0 n1 n2 n3 n4 n5 n6 n7 n8 n9 n10 n11 h = absurd (n2 t phi refl)
no_other (program.NonNull t phi) n0 n1 n2 n3 n4 n5 n6 n7 n8 n9 n10 n11 h = absurd (n3 t phi refl)
no_other (program.Fibre t phi) n0 n1 n2 n3 n4 n5 n6 n7 n8 n9 n10 n11 h = absurd (n4 t phi refl)
no_other (program.One t phi c) n0 n1 n2 n3 n4 n5 n6 n7 n8 n9 n10 n11 h = absurd (n5 t phi c refl)
no_other (program.NotOne t phi c) n0 n1 n2 n3 n4 n5 n6 n7 n8 n9 n10 n11 h = absurd (n6 t phi c refl)
no_other (program.Link t phi found) n0 n1 n2 n3 n4 n5 n6 n7 n8 n9 n10 n11 h = absurd (n7 t phi found refl)
no_other (program.OpenLink t phi found) n0 n1 n2 n3 n4 n5 n6 n7 n8 n9 n10 n11 h = absurd (n8 t phi found refl)
no_other (program.Short t phi found) n0 n1 n2 n3 n4 n5 n6 n7 n8 n9 n10 n11 h = absurd (n9 t phi found refl)
no_other (program.Onto t phi found) n0 n1 n2 n3 n4 n5 n6 n7 n8 n9 n10 n11 h = absurd (n10 t phi found refl)
no_other (program.NeverOnto t phi found) n0 n1 n2 n3 n4 n5 n6 n7 n8 n9 n10 n11 h = absurd (n11 t phi found refl)
no_other place n0 n1 n2 n3 n4 n5 n6 n7 n8 n9 n10 n11 h = h
