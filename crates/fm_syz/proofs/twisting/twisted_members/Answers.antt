use Rattle.std.proofs.Common.{◌≡◌, ◌^◌, ◌∷◌, ◌++◌, ◌∙◌, List, length, map, sym, ap, subst, true, arith}
use Rattle.std.specs.List.{list_all}
use Rattle.fm_gfp.specs.Primes.{prime_value}
use Rattle.fm_poly.specs.declared.ring.Ring.{Ring}
use Rattle.fm_term.specs.Multiples.{twisted}
use Rattle.fm_vec.specs.Multiples.{twist_fits}
use Rattle.fm_vec.specs.Vectors.{VectorValue}
use Rattle.fm_complete.specs.Divisions.{AreMembers, terms_of}
use Rattle.fm_mat.proofs.Steps.{test_more}
use Rattle.fm_syz.proofs.ColumnTerms.{terms_more}
use Rattle.fm_syz.proofs.Twists.{members_more, twist_is, twist_some}
use Rattle.fm_syz.proofs.twisting.twisted_members.Goals as goal

pub members-preserved : goal.members-preserved
members-preserved c =
    let r = c.args.ring in
    let n = c.args.rows in
    let q = prime_value r.prime ^ c.args.e in
    let v : VectorValue = c.in-Some.v.now in
    let w : VectorValue = c.in_ok-twist.field-0 in
    let here : c.members.members.now ≡ v ∷ c.in-Some.later.now = c.in-Some.ensures.cases.0 in
    let members : AreMembers r n (v ∷ c.in-Some.later.now) = subst (AreMembers r n) here c.members.invariant.members in
    let pushed = c.in_ok-push.ensures.items in
    let is = twist_is r n c.args.e v w members.0 members.1 c.in_ok-twist.ensures.value in
    record {
      members = members.3;
      out = subst (AreMembers r n) (sym {A = List VectorValue} pushed) (members_more r n c.members.out.items w c.members.invariant.out (ap (λ (x : VectorValue). x.ring) is) (ap (λ (x : VectorValue). x.rows) is)
          (twist_some q v.terms w.terms (ap (λ (x : VectorValue). x.terms) is) members.2));
      count = (let k = c.members.invariant.count in let h = ap (λ (vs : List VectorValue). length vs) here in let l = c.in_ok-push.ensures.len in omega (arith, k, h, l));
      whole = terms_more c.members.out.items c.push.new.self.items w (twisted q v.terms) (map (twisted q) (terms_of c.in-Some.later.now)) _ pushed (ap (λ (x : VectorValue). x.terms) is)
          (ap (λ (vs : List VectorValue). terms_of c.members.out.items ++ map (twisted q) (terms_of vs)) (sym here) ∙ c.members.invariant.whole);
      fit = test_more (twist_fits q) v.terms (terms_of c.in-Some.later.now) _ (subst (λ (s : Ring). twist_fits (prime_value s.prime ^ c.args.e) v.terms ≡ true) members.0 c.in_ok-twist.ensures.fits)
          (ap (λ (vs : List VectorValue). list_all (twist_fits q) (terms_of vs)) (sym here) ∙ c.members.invariant.fit);
    }
