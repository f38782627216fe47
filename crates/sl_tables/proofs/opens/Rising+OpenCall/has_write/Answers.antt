use Rattle.sl_tables.proofs.ScansFind.{any_standing}
use Rattle.sl_tables.proofs.opens.Rising+OpenCall.has_write.Goals as goal
use Rattle.sl_tables.specs.Opens.{is_write_of}
use Rattle.sl_host_state.specs.declared.kept_parts.OpenCall.{OpenCall}
use Rattle.sl_words.specs.Words.{some_is}
use Rattle.std.proofs.Common.{Bool, ap, ◌∙◌}
use Rattle.std.specs.List.{list_any}
use Rattle.std.specs.Map.{values_of}

pub returns : goal.returns
returns c =
    let q : OpenCall → Bool = (is_write_of c.args.session) in
    c.any_write.ensures ∙ (ap (λ es. list_any (λ s. some_is q s.1) es) c.deref.ensures.value ∙ (any_standing q c.self.inside.slots.items ∙ ap (λ v. list_any q (values_of v.items)) c.self.view_is))
