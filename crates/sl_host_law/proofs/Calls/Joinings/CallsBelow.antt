-- Each call of a host is of a session that the trace has: of a number below how many there are.
use Rattle.sl_due_facts.proofs.Acts.CallsAreOwned.{hosts_own_their_calls}
use Rattle.sl_due.specs.Due.{IsHostTrace}
use Rattle.sl_due.specs.Steps.{Step, seen}
use Rattle.sl_host_law.proofs.SharedFacts.PlainLists.{filter_none, got_below}
use Rattle.sl_words.proofs.Lists.{contains_none, got_inside}
use Rattle.sl_words.proofs.Options.{some_of}
use Rattle.sl_trace.specs.Sessions.{calls_of, is_call_of, session_numbered, sessions}
use Rattle.sl_trace.specs.declared.session.Session.{Session}
use Rattle.sl_trace.proofs.TraceFacts.{each_entry-front}
use Rattle.sl_trace.specs.Traces.{EachEntry, Setting, Submitted, Trace, submitted}
use Rattle.sl_trace.specs.declared.effects.Call.{Call}
use Rattle.sl_trace.specs.declared.effects.Entry.{Entry}
use Rattle.sl_run_law.proofs.Sessions.CallsAreMade.{calls_are_made}
use Rattle.sl_run_law.proofs.Sessions.CallOwners.{sessions_stay}
use Rattle.sl_words.proofs.CaseLaws.{is_false}
use Rattle.std.proofs.Common.{arith, subst, sym}
use Rattle.std.proofs.lemmas.Bool.Decides.{Decides-eqb}
use Rattle.std.specs.Prelude.{Contains, IsSome, Some, length, [], ◌<◌, ◌==◌, ◌∷◌, ◌≡◌, ◌≤◌}

-- The calls of the entry after these are of sessions that are there then.
abbrev pub IsOwned : Setting → Trace → Entry → Type 0
IsOwned st past e = (c : Call) → Contains e.effects.calls c → IsSome (session_numbered st (e ∷ past) c.session)

abbrev pub AllOwned : Setting → Trace → Type 0
AllOwned st es = EachEntry (IsOwned st) es

pub call_below : (st : Setting) (es : Trace) (m : Submitted) → AllOwned st es → Contains (submitted es) m → m.call.session < length (sessions st es)
call_below st es m owned there =
    let d = calls_are_made es m there in
    let then_owned = each_entry-front (IsOwned st) d.later (d.entry ∷ d.past) (subst (λ t. AllOwned st t) d.whole owned) in
    let s = some_of (session_numbered st (d.entry ∷ d.past) m.call.session) (then_owned.0 m.call (got_inside d.entry.effects.calls d.index m.call d.call)) in
    let now : session_numbered st es m.call.session ≡ Some s.0 =
    subst (λ t. session_numbered st t m.call.session ≡ Some s.0) (sym d.whole) (sessions_stay st d.later (d.entry ∷ d.past) m.call.session s.0 s.1)
    in
    got_below (sessions st es) m.call.session s.0 now

-- So a session that is not there yet has none.
pub none_yet : (st : Setting) (es : Trace) (s : Session) → AllOwned st es → length (sessions st es) ≤ s.number → calls_of es s ≡ []
none_yet st es s owned later =
    filter_none (is_call_of s) (submitted es) (λ m there. is_false (m.call.session == s.number) (λ its. apart m (call_below st es m owned there) ((Decides-eqb m.call.session s.number).0 its))) where
      apart : (m : Submitted) → m.call.session < length (sessions st es) → m.call.session ≡ s.number → ⊥
      apart m below its = let e : m.call.session ≡ s.number = its in absurd (omega (arith, below, e, later))

-- A step that has made no call yet is owned as those before it.
pub owned_so_far : (x : Step) → IsHostTrace x.setting x.past → x.effects.calls ≡ [] → AllOwned x.setting (seen x)
owned_so_far x past bare = ((λ c there. absurd (contains_none c (subst (λ cs. Contains cs c) bare there))), hosts_own_their_calls x.setting x.past past)
