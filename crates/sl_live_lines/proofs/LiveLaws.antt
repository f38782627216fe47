-- Lines that are written one behind another.
use Rattle.sl_command.proofs.LineLaws.{reply_written}
use Rattle.sl_command.specs.OutputLines.{class_text, line_text}
use Rattle.sl_live_lines.specs.EventTexts.{Telling, telling_after, telling_along}
use Rattle.sl_live_lines.specs.LocksAlong.{AlongState, along, asked_along, is_told, replies_along, step_along, told_along}
use Rattle.sl_live_lines.specs.LiveTexts.{answer_jobs, answer_text, count_replies, count_step, count_told, history_text, line_jobs, replies_text, step_jobs, step_text}
use Rattle.sl_report.specs.Reports.{told_lines}
use Rattle.sl_run.specs.Locks.{Told, told_effects}
use Rattle.sl_text.specs.Forms.{as_bytes}
use Rattle.sl_trace.specs.EffectTexts.{answer_words}
use Rattle.sl_trace.specs.declared.effects.Entry.{Entry}
use Rattle.sl_trace.specs.declared.effects.JobReply.{JobReply}
use Rattle.std.proofs.Common.{List, None, Option, Some, [], ap, ap₂, append-nil, arith, if◌then◌else◌, length, map, refl, sym, ℕ, ◌++◌, ◌+◌, ◌≡◌, ◌∙◌, ◌∷◌}
use Rattle.std.proofs.lemmas.List.{append_assoc, length-append, length-map}
use Rattle.std.specs.Prelude.{Bool, false, filter, flat_map, true}

-- ---- a step

-- The lines of those that are told.
told_one : (m : ℕ) (asked : Option ℕ) (r : JobReply) (rest : List JobReply) (b : Bool)
    → (if b then line_text m (answer_words r) else []) ++ class_text m (λ x. answer_words x) rest ≡ class_text m (λ x. answer_words x) (if b then r ∷ rest else rest)
told_one m asked r rest true = refl
told_one m asked r rest false = refl

told_texts : (m : ℕ) (asked : Option ℕ) (rs : List JobReply) → flat_map (answer_text m asked) rs ≡ class_text m (λ x. answer_words x) (filter (is_told asked) rs)
told_texts m asked [] = refl
told_texts m asked (r ∷ rs) =
    ap (λ bs. answer_text m asked r ++ bs) (told_texts m asked rs) ∙ told_one m asked r (filter (is_told asked) rs) (is_told asked r)

told_job : (r : JobReply) (rest : List JobReply) (b : Bool)
    → (if b then r.job ∷ [] else []) ++ map (λ (x : JobReply). x.job) rest ≡ map (λ (x : JobReply). x.job) (if b then r ∷ rest else rest)
told_job r rest true = refl
told_job r rest false = refl

told_jobs : (asked : Option ℕ) (rs : List JobReply) → flat_map (answer_jobs asked) rs ≡ map (λ (x : JobReply). x.job) (filter (is_told asked) rs)
told_jobs asked [] = refl
told_jobs asked (r ∷ rs) = ap (λ ns. answer_jobs asked r ++ ns) (told_jobs asked rs) ∙ told_job r (filter (is_told asked) rs) (is_told asked r)

replies_are : (a : AlongState) (e : Entry) → replies_along a e ≡ filter (is_told (asked_along a e)) e.effects.replies
unfolding told_effects
replies_are a e = refl

pub step_texts : (m : ℕ) (a : AlongState) (e : Entry) (asked : Option ℕ) (told : Told) (first last whole : List ℕ) → asked ≡ asked_along a e → told ≡ told_along a e
    → last ≡ first ++ flat_map (answer_text m asked) e.effects.replies → whole ≡ last ++ as_bytes (told_lines m told) → whole ≡ first ++ replies_text m a e
step_texts m a e asked told first last whole asked_is told_is replies lines =
    lines
    ∙ ap₂ (λ bs t. bs ++ as_bytes (told_lines m t))
    (replies ∙ ap (λ bs. first ++ bs) (ap (λ n. flat_map (answer_text m n) e.effects.replies) asked_is ∙ told_texts m (asked_along a e) e.effects.replies
    ∙ ap (class_text m (λ x. answer_words x)) (sym (replies_are a e))))
    told_is
    ∙ append_assoc first (class_text m (λ x. answer_words x) (replies_along a e)) (as_bytes (told_lines m (told_along a e)))

pub step_told : (a : AlongState) (e : Entry) (asked : Option ℕ) (told : Told) (first last whole : List ℕ) → asked ≡ asked_along a e → told ≡ told_along a e
    → last ≡ first ++ flat_map (answer_jobs asked) e.effects.replies → whole ≡ last ++ line_jobs told → whole ≡ first ++ step_jobs a e
step_told a e asked told first last whole asked_is told_is replies line =
    line
    ∙ ap₂ (λ ns t. ns ++ line_jobs t)
    (replies ∙ ap (λ ns. first ++ ns) (ap (λ n. flat_map (answer_jobs n) e.effects.replies) asked_is ∙ told_jobs (asked_along a e) e.effects.replies
    ∙ ap (map (λ (x : JobReply). x.job)) (sym (replies_are a e))))
    told_is
    ∙ append_assoc first (map (λ (x : JobReply). x.job) (replies_along a e)) (line_jobs (told_along a e))

line_counts : (t : Told) → length (line_jobs t) ≡ count_told t
line_counts None = refl
line_counts (Some p) = refl

-- There are as many jobs as lines.
step_counts : (a : AlongState) (e : Entry) → length (step_jobs a e) ≡ count_step a e
step_counts a e =
    length-append (map (λ (x : JobReply). x.job) (replies_along a e)) (line_jobs (told_along a e))
    ∙ ap₂ (λ k n. k + n) (length-map (replies_along a e) (λ (x : JobReply). x.job)) (line_counts (told_along a e))

-- So the jobs that a step adds count its lines.
pub jobs_counted : (a : AlongState) (e : Entry) (count now before : ℕ) (first whole : List ℕ) → before ≡ length first → whole ≡ first ++ step_jobs a e
    → now + before ≡ count + length whole → now ≡ count + count_step a e
jobs_counted a e count now before first whole before_is whole_is sum_is =
    let long : length whole ≡ length first + count_step a e
    = ap length whole_is ∙ length-append first (step_jobs a e) ∙ ap (λ n. length first + n) (step_counts a e) in
    omega (arith, before_is, long, sum_is)

-- ---- a history with one entry more

pub along_push : (a : AlongState) (h : List Entry) (e : Entry) → along a (h ++ e ∷ []) ≡ step_along (along a h) e
along_push a [] e = refl
along_push a (x ∷ h) e = along_push (step_along a x) h e

pub telling_push : (t : Telling) (h : List Entry) (e : Entry) → telling_along t (h ++ e ∷ []) ≡ telling_after (telling_along t h) e
telling_push t [] e = refl
telling_push t (x ∷ h) e = telling_push (telling_after t x) h e

pub text_push : (m : ℕ) (t : Telling) (a : AlongState) (h : List Entry) (e : Entry)
    → history_text m t a (h ++ e ∷ []) ≡ history_text m t a h ++ step_text m (telling_along t h) (along a h) e
text_push m t a [] e = append-nil (step_text m t a e)
text_push m t a (x ∷ h) e =
    ap (λ bs. step_text m t a x ++ bs) (text_push m (telling_after t x) (step_along a x) h e)
    ∙ sym (append_assoc (step_text m t a x) (history_text m (telling_after t x) (step_along a x) h) (step_text m (telling_along (telling_after t x) h) (along (step_along a x) h) e))

pub count_push : (a : AlongState) (h : List Entry) (e : Entry) → count_replies a (h ++ e ∷ []) ≡ count_replies a h + count_step (along a h) e
count_push a [] e = omega arith
count_push a (x ∷ h) e =
    let rest = count_push (step_along a x) h e in
    omega (arith, rest)

-- What writing the line of a reply uses.
pub ruleset replies = (reply_written)
