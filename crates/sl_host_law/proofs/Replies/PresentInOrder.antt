-- The present sessions stand in the order of their lockspaces' names, also where some have gone.
use Rattle.sl_host_law.proofs.SharedFacts.PlainLists.{filter_where}
use Rattle.sl_words.proofs.Lists.{filter_both}
use Rattle.sl_host_law.proofs.Replies.PlainOrderKept.{IsStrict, order_filtered}
use Rattle.sl_host_law.proofs.Replies.PlainTextOrder.{text_asym, text_weak}
use Rattle.sl_trace.specs.Sessions.{is_present, present_sessions, sessions}
use Rattle.sl_trace.specs.declared.session.Session.{Session}
use Rattle.sl_trace.specs.Traces.{Setting, Trace}
use Rattle.sl_words.specs.Orders.{in_order, is_text_before}
use Rattle.std.proofs.Common.{ap, sym, ◌∙◌}
use Rattle.std.specs.Prelude.{Bool, Contains, filter, ◌&&◌, ◌≡◌}

-- Texts stand in a strict order, so sessions do by their lockspaces' names.
pub by_name : IsStrict (λ (a b : Session). is_text_before a.lockspace b.lockspace)
by_name = record { weak = λ a b c. text_weak a.lockspace b.lockspace c.lockspace; asym = λ a b. text_asym a.lockspace b.lockspace }

-- The present sessions after some have gone, in the same order.
pub present_kept : (st : Setting) (before after : Trace) (stays : Session → Bool) → sessions st after ≡ sessions st before
    → ((s : Session) → Contains (sessions st before) s → is_present after s ≡ (is_present before s && stays s)) → present_sessions st after ≡ filter stays (present_sessions st before)
present_kept st before after stays same presence =
    ap (λ ss. in_order (λ (a b : Session). is_text_before a.lockspace b.lockspace) (filter (is_present after) ss)) same
    ∙ ap (in_order (λ (a b : Session). is_text_before a.lockspace b.lockspace))
    (filter_where (is_present after) (λ s. is_present before s && stays s) (sessions st before) presence ∙ filter_both (is_present before) stays (sessions st before))
    ∙ sym (order_filtered (λ (a b : Session). is_text_before a.lockspace b.lockspace) stays by_name (filter (is_present before) (sessions st before)))
