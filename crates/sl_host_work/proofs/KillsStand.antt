-- Kills are due where they are said to be.
use Rattle.sl_host_law.specs.StepParts.Recoveries.{killing}
use Rattle.sl_host_law.specs.StepParts.Signals.{over, signalling}
use Rattle.sl_host_work.proofs.ListPasses.{drop_next, over_next}
use Rattle.sl_host_state.specs.KeptState.{HostKept, HostState, MemberState, state_of}
use Rattle.sl_host_work.specs.Holders.{SameButSignals, holders_under, signalling_all}
use Rattle.sl_host_work.specs.KilledMembers.{count_of, count_under, holders_at, holders_of_all, is_killed, killed_of, killing_at, killing_of, unread}
use Rattle.sl_trace.specs.declared.command.Command.{Command}
use Rattle.sl_trace.specs.declared.effects.Grant.{Grant}
use Rattle.sl_trace.specs.declared.effects.Signal.TheVariants.{Kill}
use Rattle.sl_host.specs.Host.{Becomes, HostView}
use Rattle.sl_words.proofs.CaseLaws.{none_some, some_value}
use Rattle.sl_words.specs.Words.{choose}
use Rattle.std.proofs.Common.{ap, refl, sym, ◌∙◌}
use Rattle.std.specs.Prelude.{Bool, List, None, Option, Result, Some, cond, drop, false, length, slice_get, true, ℕ, ◌+◌, ◌≡◌}

pub killed_there : (h : HostState) (ms : List MemberState) (k : ℕ) (m : MemberState) (o : Option ℕ) → slice_get ms k ≡ Some m → o ≡ choose (is_killed h m) m.who.number → o ≡ killed_of h (slice_get ms k)
killed_there h ms k m o at is = is ∙ ap (λ z. killed_of h z) (sym at)

-- ---- the member at a place

killed_by : (h : HostState) (m : MemberState) (b : Bool) (session : ℕ) → is_killed h m ≡ b → Some session ≡ choose b m.who.number → killing m h ≡ signalling_all Kill session h
killed_by h m true session due is = ap (λ b. cond b (signalling Kill m h) h) due ∙ ap (λ n. signalling_all Kill n h) (sym (some_value session m.who.number is))
killed_by h m false session due is = absurd (none_some session (sym is))

killed_one : (h : HostState) (o : Option MemberState) (session : ℕ) → Some session ≡ killed_of h o → killing_of o h ≡ signalling_all Kill session h
killed_one h None session is = absurd (none_some session (sym is))
killed_one h (Some m) session is = killed_by h m (is_killed h m) session refl is

spared_by : (h : HostState) (m : MemberState) (b : Bool) → is_killed h m ≡ b → None ≡ choose b m.who.number → killing m h ≡ h
spared_by h m true due is = absurd (none_some m.who.number is)
spared_by h m false due is = ap (λ b. cond b (signalling Kill m h) h) due

spared_one : (h : HostState) (o : Option MemberState) → None ≡ killed_of h o → killing_of o h ≡ h
spared_one h None is = refl
spared_one h (Some m) is = spared_by h m (is_killed h m) refl is

pub is_killed_at : (old new : HostView) (k session : ℕ) → Some session ≡ killed_of (unread old.kept) (slice_get old.kept.members k) → Becomes old new (signalling_all Kill session) → Becomes old new (killing_at k)
is_killed_at old new k session is one read = one read ∙ sym (killed_one (state_of read old.kept) (slice_get old.kept.members k) session is)

pub is_spared_at : (v : HostView) (k : ℕ) → None ≡ killed_of (unread v.kept) (slice_get v.kept.members k) → Becomes v v (killing_at k)
is_spared_at v k is read = sym (spared_one (state_of read v.kept) (slice_get v.kept.members k) is)

-- How many that takes.
count_by : (h : HostState) (held : List Grant) (m : MemberState) (b : Bool) (session : ℕ) → is_killed h m ≡ b → Some session ≡ choose b m.who.number → count_under held m.who.number ≡ length (holders_under session held)
count_by h held m true session due is = ap (λ n. count_under held n) (sym (some_value session m.who.number is))
count_by h held m false session due is = absurd (none_some session (sym is))

count_one : (h : HostState) (held : List Grant) (o : Option MemberState) (session : ℕ) → Some session ≡ killed_of h o → count_of held o ≡ length (holders_under session held)
count_one h held None session is = absurd (none_some session (sym is))
count_one h held (Some m) session is = count_by h held m (is_killed h m) session refl is

pub counted_at : (k : HostKept) (place session : ℕ) → Some session ≡ killed_of (unread k) (slice_get k.members place) → holders_at place k ≡ length (holders_under session k.holdings)
counted_at k place session is = count_one (unread k) k.holdings (slice_get k.members place) session is

-- ---- the pass

pub all_next : (ms : List MemberState) (held : List Grant) (k : ℕ) (m : MemberState) → slice_get ms k ≡ Some m → holders_of_all (drop k ms) held ≡ count_under held m.who.number + holders_of_all (drop (k + 1) ms) held
all_next ms held k m at = ap (λ zs. holders_of_all zs held) (drop_next ms k m at)

-- What stands at the place, where members and holdings are the same still.
pub at_place : (old new : HostView) (k : ℕ) (m : MemberState) → new.kept.members ≡ old.kept.members → slice_get old.kept.members k ≡ Some m → slice_get new.kept.members k ≡ Some m
at_place old new k m same at = ap (λ ms. slice_get ms k) same ∙ at

pub count_at : (old new : HostView) (k : ℕ) (m : MemberState) → SameButSignals old new → slice_get old.kept.members k ≡ Some m → holders_at k new.kept ≡ count_under old.kept.holdings m.who.number
count_at old new k m same at =
    ap (λ held. count_of held (slice_get new.kept.members k)) same.0 ∙ ap (λ o. count_of old.kept.holdings o) (at_place old new k m same.2 at)

pub killed_next : (read : List ℕ → Result Command ℕ) (first a b : HostView) (k : ℕ) (m : MemberState) → SameButSignals first a → slice_get first.kept.members k ≡ Some m → Becomes a b (killing_at k)
    → over (drop k first.kept.members) killing (state_of read a.kept) ≡ over (drop (k + 1) first.kept.members) killing (state_of read b.kept)
killed_next read first a b k m same at one =
    over_next killing first.kept.members k m (state_of read a.kept) (state_of read b.kept) at
    (one read ∙ ap (λ o. killing_of o (state_of read a.kept)) (at_place first a k m same.2 at))
