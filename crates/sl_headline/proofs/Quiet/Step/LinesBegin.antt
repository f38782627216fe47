-- The line of a quiet acquire makes its read of the area due.
use Rattle.sl_due.specs.Due.{after_input, due, due_step}
use Rattle.sl_due.specs.declared.decision.Decision.{Decision}
use Rattle.sl_due.specs.declared.decision.Decision.TheVariants.{ReadsArea, Replies, Shares}
use Rattle.sl_due.specs.DueCommands.{acquiring, busy_refusal, carry_command, carry_decision, carry_line, decided, limit_refusal, on_line, pending_refusal, process_refusal, session_refusal, unless_refused, with_session}
use Rattle.sl_due.specs.DueInputs.{take_input}
use Rattle.sl_due.specs.CarriedLease.{read_area}
use Rattle.sl_due.specs.DueWake.{finish}
use Rattle.sl_due.specs.Steps.{Step, seen, with_input}
use Rattle.sl_trace.specs.Counts.{busy_among, held_here}
use Rattle.sl_trace.specs.Leases.{spot_of}
use Rattle.sl_headline.proofs.Quiet.Step.FinishKeeps.{KeepsLeases, finish_keeps}
use Rattle.sl_headline.specs.Quiet.Step.AnswersLeadOn.{AsksQuietly, DoesAs, LinesBegin, begun}
use Rattle.sl_trace.specs.declared.session.Session.{Session}
use Rattle.sl_trace.specs.Sessions.{is_active, last_renewal}
use Rattle.sl_trace.specs.Traces.{Setting, Submitted, Trace, holdings, is_shared, next_job, same_place}
use Rattle.sl_trace.specs.declared.command.Command.TheVariants.{Acquire}
use Rattle.sl_trace.specs.declared.command.Command.{Command}
use Rattle.sl_trace.specs.declared.command.ResourceArg.{ResourceArg}
use Rattle.sl_trace.specs.declared.effects.Grant.{Grant}
use Rattle.sl_trace.specs.declared.effects.LeaseStep.TheVariants.{ReadArea}
use Rattle.sl_trace.specs.declared.effects.Spot.{Spot}
use Rattle.sl_trace.specs.declared.effects.Work.TheVariants.{ForJob}
use Rattle.sl_trace.specs.declared.input.Input.TheVariants.{Line}
use Rattle.sl_trace.specs.declared.reply.Reply.TheVariants.{Busy, Joining as StillJoining, Limit as LimitReached, NoProcess, Pending, Recovering}
use Rattle.sl_trace.specs.declared.reply.Reply.{Reply}
use Rattle.sl_words.specs.Results.{◌>>=◌}
use Rattle.sl_words.specs.Words.{choose, least}
use Rattle.std.proofs.Common.{ap, refl, subst, sym, ◌∙◌}
use Rattle.std.specs.Prelude.{Bool, List, None, Ok, Option, Result, Some, [], false, filter, find, if◌then◌else◌, map, not, option_map, true, ℕ, ◌==◌, ◌∷◌, ◌≡◌}

-- ---- nothing is held there, so nothing shared

no_first : (x : Grant) (xs : List Grant) → x ∷ xs ≡ [] → ⊥
no_first x xs h = absurd (subst (λ ys. elim ys as (λ z. Type 0) [ [] ↦ ⊥ | y ∷ zs ↦ Unit {0} ]) h tt)

none_by : (p q : Grant → Bool) (x : Grant) (xs : List Grant) (b c : Bool) → p x ≡ b → (if b then x ∷ filter p xs else filter p xs) ≡ [] → (filter p xs ≡ [] → filter p (filter q xs) ≡ [])
    → filter p (if c then x ∷ filter q xs else filter q xs) ≡ []
none_by p q x xs true c is h rest = absurd (no_first x (filter p xs) h)
none_by p q x xs false true is h rest = ap (λ t. if t then x ∷ filter p (filter q xs) else filter p (filter q xs)) is ∙ rest h
none_by p q x xs false false is h rest = rest h

none_within : (p q : Grant → Bool) (xs : List Grant) → filter p xs ≡ [] → filter p (filter q xs) ≡ []
none_within p q [] h = refl
none_within p q (x ∷ xs) h = none_by p q x xs (p x) (q x) refl h (none_within p q xs)

-- ---- the decision

unrefused : (r : Option Reply) (rs : List (Option Reply)) (d : Decision) → r ≡ None → unless_refused (r ∷ rs) d ≡ unless_refused rs d
unrefused r rs d is = ap (λ o. elim o as (λ x. Decision) [ Some why ↦ Replies why | None ↦ unless_refused rs d ]) is

reads : (es : Trace) (s : Session) (r : ResourceArg) (shared : Bool) → held_here es (spot_of r) ≡ [] → acquiring es s r shared ≡ ReadsArea s r
reads es s r false free = refl
reads es s r true free =
    ap (λ gs. elim (find (λ (g : Grant). is_shared g.mode) gs) as (λ x. Decision) [ None ↦ ReadsArea s r | Some g ↦ Shares s g.lver ])
    (none_within (λ g. same_place g.path g.offset r.path r.offset) (λ g. g.session == s.number) (holdings es) free)

decides : (y : Step) (text : List ℕ) (r : ResourceArg) (shared : Bool) (p : ℕ) (persistent : Bool) (s : Session) → AsksQuietly y text r shared p persistent s
    → decided y.setting (seen y) y.reading (Acquire r shared p persistent) ≡ ReadsArea s r
unfolding decided
decides y text r shared p persistent s h =
    let st : Setting = y.setting in
    let es : Trace = seen y in
    let at : Spot = spot_of r in
    let d : Decision = acquiring es s r shared in
    let one : session_refusal st es s ≡ None =
    ap (λ t. if not t then Some StillJoining else choose (not (is_active st es s)) (Recovering (last_renewal st es s))) h.joined
    ∙ ap (λ t. choose (not t) (Recovering (last_renewal st es s))) h.active in
    let two : process_refusal es p ≡ None = ap (λ t. choose (not t) (NoProcess p)) h.process in
    let three : busy_refusal es at (Some p) shared ≡ None = ap (λ gs. option_map (λ p. Busy p) (busy_among gs (Some p) shared)) h.free in
    let four : pending_refusal st es at ≡ None = ap (λ ms. option_map (λ n. Pending n) (least (map (λ (m : Submitted). m.call.number) ms))) h.calm in
    let five : limit_refusal st es s at false ≡ None = ap (λ o. option_map (λ l. LimitReached l) o) h.room in
    ap (λ o. with_session o (λ s.
    unless_refused (session_refusal st es s ∷ process_refusal es p ∷ busy_refusal es (spot_of r) (Some p) shared ∷ pending_refusal st es (spot_of r)
    ∷ limit_refusal st es s (spot_of r) false ∷ []) (acquiring es s r shared))) h.named
    ∙ unrefused (session_refusal st es s) (process_refusal es p ∷ busy_refusal es at (Some p) shared ∷ pending_refusal st es at ∷ limit_refusal st es s at false ∷ []) d one
    ∙ unrefused (process_refusal es p) (busy_refusal es at (Some p) shared ∷ pending_refusal st es at ∷ limit_refusal st es s at false ∷ []) d two
    ∙ unrefused (busy_refusal es at (Some p) shared) (pending_refusal st es at ∷ limit_refusal st es s at false ∷ []) d three
    ∙ unrefused (pending_refusal st es at) (limit_refusal st es s at false ∷ []) d four
    ∙ unrefused (limit_refusal st es s at false) [] d five
    ∙ reads es s r shared h.free

-- ---- carried out

line_begins : (y : Step) (text : List ℕ) (r : ResourceArg) (shared : Bool) (p : ℕ) (persistent : Bool) (s : Session) → AsksQuietly y text r shared p persistent s
    → on_line text y ≡ read_area s (spot_of r) (ForJob (next_job y.setting (seen y))) (ReadArea r.name) (with_input (Line text) y)
unfolding on_line carry_decision
line_begins y text r shared p persistent s h =
    ap (λ (o : Result Command ℕ). carry_line text (next_job y.setting (seen y)) (o >>= (λ c. Ok (c, decided y.setting (seen y) y.reading c))) y) h.says
    ∙ ap (λ d. carry_command text (next_job y.setting (seen y)) (Acquire r shared p persistent) d y) (decides y text r shared p persistent s h)

finishes : (st : Setting) (past : Trace) (now : ℕ) (text : List ℕ) → due_step st past now (Line text) ≡ finish (on_line text (begun st past now))
unfolding due_step after_input take_input
finishes st past now text = refl

does_as : (x y : Step) → KeepsLeases x y → DoesAs y.effects x
does_as x y k = record { calls = k.calls; replies = k.replies; grants = k.grants }

pub lines_begin : LinesBegin
unfolding due
lines_begin st past now text r shared p persistent s h =
    let y : Step = begun st past now in
    let x : Step = read_area s (spot_of r) (ForJob (next_job y.setting (seen y))) (ReadArea r.name) (with_input (Line text) y) in
    subst (λ z. DoesAs z.effects x) (sym (finishes st past now text ∙ ap (λ z. finish z) (line_begins y text r shared p persistent s h))) (does_as x (finish x) (finish_keeps x))
