use Rattle.std.proofs.Common.{rules, ◌≡◌, true, false, subst}
use Rattle.std.specs.List.{list_all}
use Rattle.fm_mat.specs.Bounds.{twist_fits}
use Rattle.fm_mat.specs.Matrices.{columns_meaning}
use Rattle.fm_mat.proofs.Meanings.{twist_value, twist_test}
use Rattle.fm_mat.proofs.matrix.Matrix.twist.Goals as goal

pub returns-in_err-columns-clause-exponent : goal.returns-in_err-columns-clause-exponent
returns-in_err-columns-clause-exponent c = λ r same x. twist_test c.args.self.now c.self.inside.ring c.self.inside.rows c.self.inside.columns.items c.self.view_is c.args.e false
    (subst (λ y. list_all (λ d. list_all (twist_fits c.self.inside.ring.prime c.self.inside.ring.vars c.args.e) d) (columns_meaning c.self.inside.ring y) ≡ false) c.deref.ensures.value
    (c.in_err-columns.ensures.exponent (search rules))) r same

pub returns-clause-value : goal.returns-clause-value
returns-clause-value c = twist_value c.args.self.now c.self.inside.ring c.self.inside.rows c.self.inside.columns.items c.self.view_is c.args.e c.in_ok-columns.columns.items c.self.invariant.0 (search rules)

pub returns-clause-fits : goal.returns-clause-fits
returns-clause-fits c = twist_test c.args.self.now c.self.inside.ring c.self.inside.rows c.self.inside.columns.items c.self.view_is c.args.e true (search rules)
