use Rattle.std.proofs.Common.{◌≡◌, rules, true, ap, ap₂, ◌∙◌, codes}
use Rattle.std.proofs.lemmas.Result.{IfOk-weaker}
use Rattle.clap.specs.Words.{app_of, new_rule, rule_of, with_rule, Shape}
use Rattle.clap.specs.Simple.{app_of_fields, on_top}
use Rattle.cell_arguments.specs.Arguments.{command, plain}
use Rattle.cell_arguments.proofs.command.command.Goals as goal

pub returns : goal.returns
unfolding command
returns c =
    let dir_is : rule_of c.new-2.result ≡ new_rule (codes "dir") = search rules in
    let script_is : rule_of c.new-3.result ≡ new_rule (codes "script") = search rules in
    let plain_is : app_of c.disable_version_flag.result ≡ plain = ap app_of_fields c.disable_version_flag.ensures
    ∙ ap (on_top (λ (s : Shape). record s { disable_version_flag = true })) (ap app_of_fields c.disable_help_flag.ensures
    ∙ ap (on_top (λ (s : Shape). record s { disable_help_flag = true })) (ap app_of_fields c.no_binary_name.ensures
    ∙ ap (on_top (λ (s : Shape). record s { no_binary_name = true })) c.new.ensures.app)) in
    IfOk-weaker c.arg-6.result _ _ (λ r h. h.shape c.option-4.ensures.own
    ∙ ap₂ with_rule (c.in_ok-arg-5.ensures.shape c.option-3.ensures.own
    ∙ ap₂ with_rule (c.in_ok-arg-4.ensures.shape c.option-2.ensures.own
    ∙ ap₂ with_rule (c.in_ok-arg-3.ensures.shape c.option.ensures.own
    ∙ ap₂ with_rule (c.in_ok-arg-2.ensures.shape (search rules)
    ∙ ap₂ with_rule (c.in_ok-arg.ensures.shape (search rules)
    ∙ ap₂ with_rule plain_is dir_is) script_is) c.option.ensures.rule) c.option-2.ensures.rule) c.option-3.ensures.rule) c.option-4.ensures.rule) c.arg-6.ensures
