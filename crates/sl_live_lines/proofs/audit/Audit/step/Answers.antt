use Rattle.sl_live_lines.proofs.AuditLaws.{audit_more}
use Rattle.sl_live_lines.proofs.LiveLaws.{jobs_counted}
use Rattle.sl_live_lines.proofs.audit.Audit.step.Goals as goal
use Rattle.sl_live_lines.specs.AuditedHistory.{after_entry, answered_by, calls_made, opened_at, starts_made, told_by}
use Rattle.std.proofs.Common.{ap, length, ◌+◌, ◌∙◌}

pub returns-clause-on : goal.returns-clause-on
returns-clause-on c = λ t a h so asks.
    let e = c.args.entry.now in
    let x = c.args.self.now in
    audit_more t a h e x _ (record {
      telling = c.in_ok-step.ensures;
      locks = c.in_ok-push_step.ensures.locks;
      number = c.in_ok-number.ensures;
      calls = λ n. c.in_ok-note_calls.ensures n ∙ ap (λ m. after_entry (calls_made e) (answered_by e.input) m n (opened_at x.calls n)) c.in_ok-number.ensures;
      starts = λ n. c.in_ok-note_starts.ensures n ∙ ap (λ m. after_entry (starts_made e) (told_by e.input) m n (opened_at x.starts n)) c.in_ok-number.ensures;
      replies = jobs_counted x.locks e x.replies c.in_ok-self.field-0 _ c.args.jobs.now.items c.push_step.new.jobs.items
          (ap length c.as_slice-before.ensures.value) c.in_ok-push_step.ensures.jobs (c.in_ok-self.ensures ∙ ap (λ js. x.replies + length js) c.deref.ensures.value);
    }) so asks
