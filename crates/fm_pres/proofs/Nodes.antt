-- The nodes of a table, and one more.
use Rattle.std.proofs.Common.{◌≡◌, ℕ, zero, suc, ◌+◌, ◌-◌, ◌<◌, true, ◌&&◌, List, [], ◌∷◌, ◌++◌, length, get_or, Some, None, refl, sym, ap, ◌∙◌, subst, arith}
use Rattle.std.specs.List.{list_all}
use Rattle.std.proofs.lemmas.Bool.{and_parts}
use Rattle.std.specs.Prelude.{slice_get}
use Rattle.std.proofs.lemmas.Option.{same_Some}
use Rattle.std.proofs.lemmas.List.{length-append}
use Rattle.fm_poly.specs.declared.ring.Ring.{Ring}
use Rattle.fm_report.specs.Parts.{Part, given}
use Rattle.fm_parts.specs.Replays.{is_number}
use Rattle.fm_parts.specs.Shapes.{columns_of, fits, is_shallow}
use Rattle.fm_pres.specs.Tables.{part_at, tree_of, TableValue, parts_from, parts_in, parts_with, is_column, refers, fault_of, IsOver}
use Rattle.fm_pres.specs.Nodes.{forms_of, parts_of, IsMeasured, IsNode, AreNodesFrom, AreNodes, AreOver, IsBelow, IsPart}
use Rattle.fm_pres.specs.Kept.{Shared, AreValues}
use Rattle.fm_pres.specs.declared.form.Form.{Form}
use Rattle.fm_pres.specs.declared.form.Form.TheVariants.{Given, Twist, Flip, Beside, Stack, Times, Pick}
use Rattle.fm_pres.specs.declared.node.Node.{Node}
use Rattle.fm_pres.proofs.Tables.{taken_parts, is_number_bounds, Extends, extends_push, extends_from, tree_kept, refers_kept, passes}

last_at : (ps : List Part) (t d : Part) → get_or (ps ++ t ∷ []) (length ps) d ≡ t
last_at [] t d = refl
last_at (p ∷ ps) t d = last_at ps t d

-- ---- where a node stands

two_below : (ps : List Part) (k a b : ℕ) → (is_number ps a && is_number ps b) ≡ true → k ≡ suc (length ps) → (a < k) × (b < k)
two_below ps k a b h e =
    let t = and_parts (is_number ps a) (is_number ps b) h in
    (omega (arith, e, (is_number_bounds ps a t.0).1), omega (arith, e, (is_number_bounds ps b t.1).1))

below_next : (ps : List Part) (k : ℕ) (f : Form) → refers ps f ≡ true → k ≡ suc (length ps) → IsBelow k f
below_next ps k (Given m) h e = tt
below_next ps k (Twist a x) h e = omega (arith, e, (is_number_bounds ps a h).1)
below_next ps k (Flip a) h e = omega (arith, e, (is_number_bounds ps a h).1)
below_next ps k (Beside a b) h e = two_below ps k a b h e
below_next ps k (Stack a b) h e = two_below ps k a b h e
below_next ps k (Times a b) h e = two_below ps k a b h e
below_next ps k (Pick a js) h e =
    let t = and_parts (is_number ps a) (list_all (is_column (columns_of (part_at ps a))) js.items) h in
    omega (arith, e, (is_number_bounds ps a t.0).1)

part_here : (ps qs : List Part) (n : Node) (k : ℕ) → IsNode ps n → Extends (ps ++ tree_of ps n.form ∷ []) qs → k ≡ suc (length ps) → IsPart qs k n
part_here ps qs n k x e w =
    let t = tree_of ps n.form in
    let p = passes ps n.form x.faultless in
    let more = extends_push ps qs t e in
    let long : length (ps ++ t ∷ []) ≡ length ps + 1 = length-append ps (t ∷ []) in
    let place : k - 1 ≡ length ps = omega (arith, w) in
    let at : part_at qs k ≡ t = ap (λ i. get_or qs i (given 0 [])) place ∙ e.same (length ps) (given 0 []) (omega (arith, long)) ∙ last_at ps t (given 0 []) in
    record {
      is = at ∙ sym (tree_kept ps qs more n.form p.refers_back);
      below = below_next ps k n.form p.refers_back w;
      refers_back = refers_kept ps qs more n.form p.refers_back;
      fitting = subst (λ a. fits a ≡ true) (sym at) p.fitting;
      shallow = subst (λ a. is_shallow a ≡ true) (sym at) p.shallow;
      measured = subst (λ a. IsMeasured a n.shape n.depth) (sym at) x.measured;
    }

part_from : (ps : List Part) (ns : List Node) (i k : ℕ) (n : Node) → AreNodesFrom ps ns → i < length ns → n ≡ get_or ns i n → k ≡ length ps + suc i → IsPart (parts_from ps (forms_of ns)) k n
part_from ps [] i k n a h e w = absurd (omega (arith, h))
part_from ps (m ∷ ns) zero k n a h e w =
    let t = tree_of ps m.form in
    subst (λ x. IsPart (parts_from (ps ++ t ∷ []) (forms_of ns)) k x) (sym e)
    (part_here ps (parts_from (ps ++ t ∷ []) (forms_of ns)) m k a.0 (extends_from (ps ++ t ∷ []) (forms_of ns)) (omega (arith, w)))
part_from ps (m ∷ ns) (suc i) k n a h e w =
    let t = tree_of ps m.form in
    let long : length (ps ++ t ∷ []) ≡ length ps + 1 = length-append ps (t ∷ []) in
    part_from (ps ++ t ∷ []) ns i k n a.1 (omega (arith, h)) e (omega (arith, w, long))

-- ---- lengths, and one more

length_from : (ps : List Part) (ns : List Node) → length (parts_from ps (forms_of ns)) ≡ length ps + length ns
length_from ps [] = omega arith
length_from ps (n ∷ ns) =
    let t = tree_of ps n.form in
    let long : length (ps ++ t ∷ []) ≡ length ps + 1 = length-append ps (t ∷ []) in
    let rest = length_from (ps ++ t ∷ []) ns in
    omega (arith, long, rest)

pub parts_length : (ns : List Node) → length (parts_of ns) ≡ length ns
unfolding parts_of
parts_length ns = let h = length_from [] ns in omega (arith, h)

pub node_is_part : (ns : List Node) (k : ℕ) (n : Node) → AreNodes ns → is_number (parts_of ns) k ≡ true → n ≡ get_or ns (k - 1) n → IsPart (parts_of ns) k n
unfolding AreNodes parts_of
node_is_part ns k n a h e =
    let b = is_number_bounds (parts_from [] (forms_of ns)) k h in
    let long = length_from [] ns in
    part_from [] ns (k - 1) k n a (omega (arith, b.0, b.1, long)) e (omega (arith, b.0))

parts_from_push : (ps : List Part) (ns : List Node) (n : Node) → parts_from ps (forms_of (ns ++ n ∷ [])) ≡ parts_from ps (forms_of ns) ++ tree_of (parts_from ps (forms_of ns)) n.form ∷ []
parts_from_push ps [] n = refl
parts_from_push ps (m ∷ ns) n = parts_from_push (ps ++ tree_of ps m.form ∷ []) ns n

pub parts_push : (ns : List Node) (n : Node) → parts_of (ns ++ n ∷ []) ≡ parts_of ns ++ tree_of (parts_of ns) n.form ∷ []
unfolding parts_of
parts_push ns n = parts_from_push [] ns n

pub parts_are : (r : Ring) (ns : List Node) → parts_in (record { ring = r; forms = forms_of ns }) ≡ parts_of ns
unfolding parts_in parts_of
parts_are r ns = refl

nodes_from_push : (ps : List Part) (ns : List Node) (n : Node) → AreNodesFrom ps ns → IsNode (parts_from ps (forms_of ns)) n → AreNodesFrom ps (ns ++ n ∷ [])
nodes_from_push ps [] n a x = (x, tt)
nodes_from_push ps (m ∷ ns) n a x = (a.0, nodes_from_push (ps ++ tree_of ps m.form ∷ []) ns n a.1 x)

pub nodes_push : (ns : List Node) (n : Node) → AreNodes ns → IsNode (parts_of ns) n → AreNodes (ns ++ n ∷ [])
unfolding AreNodes parts_of
nodes_push ns n a x = nodes_from_push [] ns n a x

pub over_push : (r : Ring) (ns : List Node) (n : Node) → AreOver r ns → IsOver r n.form → AreOver r (ns ++ n ∷ [])
over_push r [] n o x = (x, tt)
over_push r (m ∷ ns) n o x = (o.0, over_push r ns n o.1 x)

pub over_at : (r : Ring) (ns : List Node) (i : ℕ) (n : Node) → AreOver r ns → slice_get ns i ≡ Some n → IsOver r n.form
over_at r [] i n o e = absurd (cc e)
over_at r (m ∷ ns) zero n o e = subst (λ (x : Node). IsOver r x.form) (same_Some m n e) o.0
over_at r (m ∷ ns) (suc i) n o e = over_at r ns i n o.1 e

-- the values of the parts so far remain
pub values_push : (r : Ring) (ps : List Part) (a : Part) (vs : List Shared) → AreValues r ps vs → AreValues r (ps ++ a ∷ []) vs
values_push r ps a [] x = tt
values_push r [] a (v ∷ vs) x = absurd x
values_push r (p ∷ ps) a (v ∷ vs) x = (x.0, values_push r ps a vs x.1)

pub nothing_is_there : AreNodes []
unfolding AreNodes
nothing_is_there = tt

pub no_parts : parts_of [] ≡ []
unfolding parts_of
no_parts = refl

-- what is seen of a table, and its nodes
pub seen : (t : TableValue) (r : Ring) (ns ms : List Node) → record { ring = r; forms = forms_of ns } ≡ t → ms ≡ ns → parts_in t ≡ parts_of ms
seen t r ns ms e h = ap parts_in (sym e) ∙ parts_are r ns ∙ ap parts_of (sym h)

-- what holds of nodes and values is kept by one more node
pub invariant_push : (r : Ring) (ns ms xs : List Node) (n : Node) (vs : List Shared) → ms ≡ ns → xs ≡ ns ++ n ∷ []
    → AreNodes ns → AreOver r ns → AreValues r (parts_of ns) vs → length ns + 1 < 4294967296
    → IsOver r n.form → fault_of (parts_of ms) n.form ≡ None → IsMeasured (tree_of (parts_of ms) n.form) n.shape n.depth
    → AreNodes xs × AreOver r xs × AreValues r (parts_of xs) vs × (length xs < 4294967296)
invariant_push r ns ms xs n vs e h a o v few over f m =
    let node : IsNode (parts_of ns) n = subst (λ ks. IsNode (parts_of ks) n) e (record { faultless = f; measured = m }) in
    let long : length (ns ++ n ∷ []) ≡ length ns + 1 = length-append ns (n ∷ []) in
    subst (λ ks. AreNodes ks × AreOver r ks × AreValues r (parts_of ks) vs × (length ks < 4294967296)) (sym h) (
      nodes_push ns n a node,
      over_push r ns n o over,
      subst (λ ps. AreValues r ps vs) (sym (parts_push ns n)) (values_push r (parts_of ns) (tree_of (parts_of ns) n.form) vs v),
      omega (arith, long, few),
    )

pub parts_pushed : (t : TableValue) (r : Ring) (ns ms xs : List Node) (n : Node) → record { ring = r; forms = forms_of ns } ≡ t → ms ≡ ns → xs ≡ ns ++ n ∷ []
    → fault_of (parts_of ms) n.form ≡ None → parts_in (record { ring = r; forms = forms_of xs }) ≡ parts_with (parts_in t) n.form
parts_pushed t r ns ms xs n e h w f =
    parts_are r xs ∙ ap parts_of w ∙ parts_push ns n ∙ taken_parts (parts_of ns) n.form (subst (λ ks. fault_of (parts_of ks) n.form ≡ None) h f)
    ∙ ap (λ ps. parts_with ps n.form) (sym (seen t r ns ns e refl))

-- what holds of the nodes, seen of the table
pub carried : (P : Ring → List Part → Type 0) (t : TableValue) (r : Ring) (ns ms : List Node) → record { ring = r; forms = forms_of ns } ≡ t → ms ≡ ns → P r (parts_of ms) → P t.ring (parts_in t)
carried P t r ns ms e h x = subst (λ (u : TableValue). P u.ring (parts_in u)) e (subst (P r) (ap parts_of h ∙ sym (parts_are r ns)) x)
