use Rattle.std.proofs.Common.{◌++◌, sym, subst}
use Rattle.std.proofs.lemmas.List.{map-id}
use Rattle.fm_groebner.proofs.Numbers.{contains_of_in}
use Rattle.fm_graphs.proofs.Columns.{Spanned, span_own, span_within}
use Rattle.fm_graphs.proofs.Trims.{trimmed_is}
use Rattle.fm_graphs.proofs.laws.trimmed_columns_span_the_same.Goals as goal

pub returns-clause-same : goal.returns-clause-same
returns-clause-same c = λ r m vs units left kept l e v.
    let T = trimmed_is r m (λ v. v) vs (λ v i. l v (contains_of_in i)) units left kept e in (
      span_within r.prime r.vars m r.order kept vs (λ u i. span_own r.prime r.vars m r.order vs u (T.part u i) (l u (contains_of_in (T.part u i)))) v,
      span_within r.prime r.vars m r.order vs kept (λ u i. subst (λ xs. Spanned r.prime r.vars m xs u) (map-id kept) (T.same u i)) v,
    )

pub returns-clause-free : goal.returns-clause-free
returns-clause-free c = λ r m vs units left kept l e xs ys v is s.
    let T = trimmed_is r m (λ v. v) vs (λ v i. l v (contains_of_in i)) units left kept e in
    T.free xs ys v is (subst (λ zs. Spanned r.prime r.vars m zs v) (sym (map-id (xs ++ ys))) s)
