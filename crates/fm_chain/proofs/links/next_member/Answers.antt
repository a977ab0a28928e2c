use Rattle.std.proofs.Common.{◌≡◌, Ok, Err, sym, ap, ◌∙◌, subst}
use Rattle.fm_poly.specs.declared.ring.Ring.{Ring}
use Rattle.fm_run.specs.Runs.{Follows, halt_of}
use Rattle.fm_run.proofs.Parts.{failed}
use Rattle.fm_mat.specs.Matrices.{MatrixValue, matrix_meaning}
use Rattle.fm_graphs.specs.Bounds.{twisted_matrix}
use Rattle.fm_graphs.specs.Graphs.{Graph, inside_run}
use Rattle.fm_graphs.specs.Trims.{preimage_run}
use Rattle.fm_plan.specs.Base.{chain_work}
use Rattle.fm_syz.specs.GraphValues.{graph_meaning}
use Rattle.fm_syz.specs.GeneratorValues.{GeneratorsValue, PreimageValue, preimage_meaning}
use Rattle.fm_syz.specs.Insides.{inside_value}
use Rattle.fm_syz.specs.declared.inside.Inside.{Inside}
use Rattle.fm_chain.specs.Chains.{link_value}
use Rattle.fm_chain.proofs.LinkParts.{power_stops, member_stops, inside_stops, link_ends}
use Rattle.fm_chain.proofs.links.next_member.Goals as goal

pub returns-in_err-power-clause-follows : goal.returns-in_err-power-clause-follows
returns-in_err-power-clause-follows c = λ s is.
    let g = c.args.g.now in
    let r = g.matrix.ring in
    let u = matrix_meaning r c.args.u.now in
    let units = c.args.work.now in
    let z = c.in_err-power.field-0.0 in
    failed (link_value r s) halt_of c.from_residual.result z units units (chain_work r u s units) c.from_residual.ensures
    (power_stops r u s units z (subst (λ (G : Graph r). Follows {X = MatrixValue} (matrix_meaning r) (Err z) units units (twisted_matrix r.prime r.vars 1 G.matrix units)) (sym is)
    (subst (λ (m : MatrixValue). Follows {X = MatrixValue} (matrix_meaning r) (Err z) units units (twisted_matrix r.prime r.vars 1 (matrix_meaning r m) units)) c.matrix.ensures.same (c.in_err-power.ensures.follows r units (ap (λ (m : MatrixValue). m.ring) c.matrix.ensures.same)))))

pub returns-in_err-member-clause-follows : goal.returns-in_err-member-clause-follows
returns-in_err-member-clause-follows c = λ s is.
    let g = c.args.g.now in
    let r = g.matrix.ring in
    let u = matrix_meaning r c.args.u.now in
    let units = c.args.work.now in
    let K = c.in_ok-power.power in
    let z = c.in_err-member.field-0.0 in
    let first = subst (λ (G : Graph r). twisted_matrix r.prime r.vars 1 G.matrix units ≡ record { end = Ok (matrix_meaning r K); left = units }) (sym is)
    (subst (λ (m : MatrixValue). twisted_matrix r.prime r.vars 1 (matrix_meaning r m) units ≡ record { end = Ok (matrix_meaning r K); left = units }) c.matrix.ensures.same (c.in_ok-power.ensures.follows r units (ap (λ (m : MatrixValue). m.ring) c.matrix.ensures.same))) in
    failed (link_value r s) halt_of c.from_residual-in_err-member.result z units c.preimage.new.work (chain_work r u s units) c.from_residual-in_err-member.ensures
    (member_stops r u s units K first c.preimage.new.work z (subst (λ (q : Ring). Follows {X = PreimageValue} (preimage_meaning q) (Err z) units c.preimage.new.work (preimage_run q (matrix_meaning q c.args.u.now) (matrix_meaning q K) units)) c.requires.ring c.in_err-member.ensures.follows))

pub returns-in_err-inside-clause-follows : goal.returns-in_err-inside-clause-follows
returns-in_err-inside-clause-follows c = λ s is.
    let g = c.args.g.now in
    let r = g.matrix.ring in
    let u = matrix_meaning r c.args.u.now in
    let units = c.args.work.now in
    let K = c.in_ok-power.power in
    let x = c.in_ok-member.member in
    let z = c.in_err-inside.field-0.0 in
    let first = subst (λ (G : Graph r). twisted_matrix r.prime r.vars 1 G.matrix units ≡ record { end = Ok (matrix_meaning r K); left = units }) (sym is)
    (subst (λ (m : MatrixValue). twisted_matrix r.prime r.vars 1 (matrix_meaning r m) units ≡ record { end = Ok (matrix_meaning r K); left = units }) c.matrix.ensures.same (c.in_ok-power.ensures.follows r units (ap (λ (m : MatrixValue). m.ring) c.matrix.ensures.same))) in
    let found : c.found.result.now ≡ x.generators.graph.matrix = c.found.ensures ∙ ap (λ (y : GeneratorsValue). y.graph.matrix) c.generators.ensures.same in
    failed (link_value r s) halt_of c.from_residual-in_err-inside.result z units c.inside_of.new.work (chain_work r u s units) c.from_residual-in_err-inside.ensures
    (inside_stops r u s units K first c.preimage.new.work c.inside_of.new.work x
    (subst (λ (q : Ring). preimage_run q (matrix_meaning q c.args.u.now) (matrix_meaning q K) units ≡ record { end = Ok (preimage_meaning q x); left = c.preimage.new.work }) c.requires.ring c.in_ok-member.ensures.follows) z
    (subst (λ (G : Graph r). Follows {X = Inside} (inside_value r) (Err z) c.preimage.new.work c.inside_of.new.work (inside_run r (preimage_meaning r x).found G c.preimage.new.work)) (sym is)
    (subst (λ (m : MatrixValue). Follows {X = Inside} (inside_value r) (Err z) c.preimage.new.work c.inside_of.new.work (inside_run r (matrix_meaning r m) (graph_meaning r g) c.preimage.new.work)) found c.in_err-inside.ensures.follows)))

pub returns-clause-follows : goal.returns-clause-follows
returns-clause-follows c = λ s is.
    let g = c.args.g.now in
    let r = g.matrix.ring in
    let u = matrix_meaning r c.args.u.now in
    let units = c.args.work.now in
    let K = c.in_ok-power.power in
    let x = c.in_ok-member.member in
    let y = c.in_ok-inside.inside in
    let first = subst (λ (G : Graph r). twisted_matrix r.prime r.vars 1 G.matrix units ≡ record { end = Ok (matrix_meaning r K); left = units }) (sym is)
    (subst (λ (m : MatrixValue). twisted_matrix r.prime r.vars 1 (matrix_meaning r m) units ≡ record { end = Ok (matrix_meaning r K); left = units }) c.matrix.ensures.same (c.in_ok-power.ensures.follows r units (ap (λ (m : MatrixValue). m.ring) c.matrix.ensures.same))) in
    let found : c.found.result.now ≡ x.generators.graph.matrix = c.found.ensures ∙ ap (λ (y : GeneratorsValue). y.graph.matrix) c.generators.ensures.same in
    link_ends r u s units K first c.preimage.new.work c.inside_of.new.work x
    (subst (λ (q : Ring). preimage_run q (matrix_meaning q c.args.u.now) (matrix_meaning q K) units ≡ record { end = Ok (preimage_meaning q x); left = c.preimage.new.work }) c.requires.ring c.in_ok-member.ensures.follows) y
    (subst (λ (G : Graph r). inside_run r (preimage_meaning r x).found G c.preimage.new.work ≡ record { end = Ok (inside_value r y); left = c.inside_of.new.work }) (sym is)
    (subst (λ (m : MatrixValue). inside_run r (matrix_meaning r m) (graph_meaning r g) c.preimage.new.work ≡ record { end = Ok (inside_value r y); left = c.inside_of.new.work }) found c.in_ok-inside.ensures.follows))
