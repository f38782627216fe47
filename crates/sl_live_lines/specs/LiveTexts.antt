-- What is put out of live machines.
use Rattle.sl_command.specs.OutputLines.{class_text, line_text}
use Rattle.sl_live_lines.specs.EventTexts.{Telling, told_events, telling_after}
use Rattle.sl_live_lines.specs.LocksAlong.{AlongState, is_told, replies_along, step_along, told_along}
use Rattle.sl_live_lines.specs.declared.live_texts.Ending.TheVariants.{Cut, Refused, Whole}
use Rattle.sl_live_lines.specs.declared.live_texts.Ending.{Ending}
use Rattle.sl_report.specs.Reports.{told_lines}
use Rattle.sl_report.specs.RefusalLines.{refusal_line}
use Rattle.sl_run.specs.Locks.{Told}
use Rattle.sl_text.specs.Forms.{as_bytes, spaced}
use Rattle.sl_trace.specs.EffectTexts.{answer_words}
use Rattle.sl_trace.specs.declared.effects.Entry.{Entry}
use Rattle.sl_trace.specs.declared.effects.JobReply.{JobReply}
use Rattle.std.specs.Prelude.{List, None, Option, Some, codes, decimal, if◌then◌else◌, length, map, [], ℕ, ◌++◌, ◌+◌, ◌∷◌}

-- ---- what is told of a machine, as lvmlockd's locks go along its history

-- The lines of a step's replies: the daemon's, but not that to an ask; and then the reply to the line for lvmlockd that runs, under that line's number,
-- if the step has brought it.
abbrev pub replies_text : ℕ → AlongState → Entry → List ℕ
replies_text m a e = class_text m (λ r. answer_words r) (replies_along a e) ++ as_bytes (told_lines m (told_along a e))

-- The lines of what is told of a step: its events, where they are told, and behind them its replies.
abbrev pub step_text : ℕ → Telling → AlongState → Entry → List ℕ
step_text m t a e = told_events m t e ++ replies_text m a e

-- .. of a history, the oldest first.
abbrev pub history_text : ℕ → Telling → AlongState → List Entry → List ℕ
history_text m t a [] = []
history_text m t a (e ∷ h) = step_text m t a e ++ history_text m (telling_after t e) (step_along a e) h

-- The jobs whose replies are among these: the line for lvmlockd is one.
abbrev pub line_jobs : Told → List ℕ
line_jobs None = []
line_jobs (Some p) = p.0 ∷ []

abbrev pub step_jobs : AlongState → Entry → List ℕ
step_jobs a e = map (λ (r : JobReply). r.job) (replies_along a e) ++ line_jobs (told_along a e)

-- How many replies a step's are, and a history's.
abbrev pub count_told : Told → ℕ
count_told None = 0
count_told (Some p) = 1

abbrev pub count_step : AlongState → Entry → ℕ
count_step a e = length (replies_along a e) + count_told (told_along a e)

abbrev pub count_replies : AlongState → List Entry → ℕ
count_replies a [] = 0
count_replies a (e ∷ h) = count_step a e + count_replies (step_along a e) h

-- ---- what machines put out together

-- The last line.
abbrev pub live_line : ℕ → ℕ → List ℕ
live_line machines replies =
    spaced (codes "live" ∷ codes "machines" ∷ decimal machines ∷ codes "replies" ∷ decimal replies ∷ [])

-- What stands at the end, by how the script ended.
abbrev pub last_text : ℕ → ℕ → Ending → List ℕ
last_text machines replies Whole = live_line machines replies ++ 10 ∷ []
last_text machines replies (Refused number why) = as_bytes (refusal_line number why ∷ [])
last_text machines replies Cut = []

-- ---- one reply

-- The line of a reply, unless it is that to this ask; and its job.
abbrev pub answer_text : ℕ → Option ℕ → JobReply → List ℕ
answer_text m asked r = if is_told asked r then line_text m (answer_words r) else []

abbrev pub answer_jobs : Option ℕ → JobReply → List ℕ
answer_jobs asked r = if is_told asked r then r.job ∷ [] else []
