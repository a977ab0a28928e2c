use Rattle.std.proofs.Common.{rules, ◌≡◌, ◌∙◌, ap₂}
use Rattle.std.proofs.lemmas.Result.{IfOk-weaker}
use Rattle.clap.specs.Simple.{app_of, with_rule}
use Rattle.clap.specs.Walk.{rule_of}
use Rattle.fm_top.specs.Words.{bare_command, budget_option, command_argument, number_argument}
use Rattle.fm_top.proofs.words.command.Goals as goal

pub returns : goal.returns
returns c =
    let command_is : rule_of c.required-command.result ≡ command_argument = search rules in
    let number_is : rule_of c.new-number.result ≡ number_argument = search rules in
    let budget_is : rule_of c.long-budget.result ≡ budget_option = search rules in
    let bare_is : app_of c.disable_version_flag.result ≡ bare_command = search rules in
    let first = c.in_ok-arg.ensures.shape (search rules) ∙ ap₂ with_rule bare_is command_is in
    let second = c.in_ok-arg-2.ensures.shape (search rules) ∙ ap₂ with_rule first number_is in
    IfOk-weaker c.arg-3.result _ _ (λ line added. added.shape (search rules) ∙ ap₂ with_rule second budget_is) c.arg-3.ensures
