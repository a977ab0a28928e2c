use Rattle.std.proofs.Common.{rules, ◌≡◌, true, false, subst}
use Rattle.std.specs.List.{list_all}
use Rattle.fm_mat.specs.Bounds.{products_fit}
use Rattle.fm_mat.specs.Matrices.{columns_meaning}
use Rattle.fm_mat.proofs.Meanings.{times_value, times_test}
use Rattle.fm_mat.proofs.matrix.Matrix.times.Goals as goal

pub returns-in_err-columns-clause-exponent : goal.returns-in_err-columns-clause-exponent
returns-in_err-columns-clause-exponent c = λ r same e. times_test c.args.self.now c.self.inside.ring c.self.inside.rows c.self.inside.columns.items c.self.view_is c.args.b.now c.b.inside.ring c.b.inside.rows c.b.inside.columns.items c.b.view_is false
    (subst (λ y. list_all (products_fit c.self.inside.ring.prime c.self.inside.ring.vars (columns_meaning c.self.inside.ring y)) (columns_meaning c.self.inside.ring c.b.inside.columns.items) ≡ false) c.deref.ensures.value
    (subst (λ z. list_all (products_fit c.self.inside.ring.prime c.self.inside.ring.vars (columns_meaning c.self.inside.ring c.deref.result.now)) (columns_meaning c.self.inside.ring z) ≡ false) c.deref-2.ensures.value
    (c.in_err-columns.ensures.exponent (search rules)))) r same

pub returns-clause-value : goal.returns-clause-value
returns-clause-value c = times_value c.args.self.now c.self.inside.ring c.self.inside.rows c.self.inside.columns.items c.self.view_is c.args.b.now c.b.inside.ring c.b.inside.rows c.b.inside.columns.items c.b.view_is c.in_ok-columns.columns.items (search rules)

pub returns-clause-fits : goal.returns-clause-fits
returns-clause-fits c = times_test c.args.self.now c.self.inside.ring c.self.inside.rows c.self.inside.columns.items c.self.view_is c.args.b.now c.b.inside.ring c.b.inside.rows c.b.inside.columns.items c.b.view_is true (search rules)
