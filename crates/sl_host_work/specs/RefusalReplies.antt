-- Why jobs are refused together.
use Rattle.sl_host_work.specs.declared.refusals.Refusal.TheVariants.{Gone, Late}
use Rattle.sl_host_work.specs.declared.refusals.Refusal.{Refusal}
use Rattle.sl_trace.specs.declared.reply.Reply.TheVariants.{NoProcess, Recovering}
use Rattle.sl_trace.specs.declared.reply.Reply.{Reply}

-- The reply to each.
abbrev pub reply_of : Refusal → Reply
reply_of (Late renewed) = Recovering renewed
reply_of (Gone p) = NoProcess p
