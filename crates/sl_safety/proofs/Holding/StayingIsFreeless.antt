-- A session that isn't leaving has written no free: the law of the free asks for a leaving, and a leaving stays.
use Rattle.sl_run.specs.Lawful.{Orderly}
use Rattle.sl_run.specs.LawfulDelta.{LawfulDeltaCall, LawfulFree}
use Rattle.sl_words.proofs.Lists.{find_inside}
use Rattle.sl_words.proofs.Options.{some_there}
use Rattle.sl_run_law.proofs.Sessions.CallOwners.{calls_were_lawful}
use Rattle.sl_run_law.specs.Sessions.SessionLaws.{IsSession, WasLawful, front_of, made_as}
use Rattle.sl_trace.specs.Sessions.{calls_of, free_write, is_free_purpose, is_joined, leaving_job}
use Rattle.sl_trace.specs.declared.session.Session.{Session}
use Rattle.sl_trace.specs.Traces.{Job, Setting, Submitted, Trace, submitted}
use Rattle.sl_trace.specs.declared.effects.Entry.{Entry}
use Rattle.sl_trace.specs.declared.effects.Purpose.TheVariants.{Joining, Lease, Leaving, Renewal, RequestRead, RequestWrite, SeeRequest, Survey, ValueRead, ValueWrite}
use Rattle.sl_trace.specs.declared.effects.Purpose.{Purpose}
use Rattle.sl_run_law.proofs.Watchdog.FoundCalls.{call_owner}
use Rattle.sl_words.proofs.CaseLaws.{false_is_true, no_value}
use Rattle.sl_words.proofs.WordLaws.{and_true}
use Rattle.std.proofs.Common.{refl, subst, sym}
use Rattle.std.specs.Prelude.{Bool, Contains, List, None, Option, Some, find, is_some, true, [], ◌++◌, ◌∷◌, ◌≡◌}

-- None of the session's calls writes a free.
abbrev pub HasNoFree : Trace → Session → Type 0
HasNoFree es s = (m : Submitted) → Contains (submitted es) m → m.call.session ≡ s.number → is_free_purpose m.call.purpose ≡ true → ⊥

-- Where each fails nothing is found.
none_found : {A : Type 0} (p : A → Bool) (xs : List A) → ((x : A) → Contains xs x → p x ≡ true → ⊥) → find p xs ≡ None
none_found {A} p xs fails = by (find p xs) refl where
  by : (o : Option A) → find p xs ≡ o → o ≡ None
  by None is = refl
  by (Some x) is = let r = find_inside p xs x is in absurd (fails x r.0 r.1)

pub nothing_freed : (es : Trace) (s : Session) → HasNoFree es s → free_write (calls_of es s) ≡ None
nothing_freed es s free =
    none_found (λ (m : Submitted). is_free_purpose m.call.purpose) (calls_of es s) (λ m there frees. let r = call_owner es s m there in free m r.0 r.1 frees)

-- A free is under the law of frees.
pub free_law : (st : Setting) (es : Trace) (s : Session) (c : Submitted) (p : Purpose) → LawfulDeltaCall st es s c p → is_free_purpose p ≡ true → LawfulFree st es s c
free_law st es s c (Joining j step) h frees = absurd (false_is_true frees)
free_law st es s c Renewal h frees = absurd (false_is_true frees)
free_law st es s c Survey h frees = absurd (false_is_true frees)
free_law st es s c (Leaving j) h frees = h
free_law st es s c (Lease work step) h frees = absurd (false_is_true frees)
free_law st es s c (RequestRead j) h frees = absurd (false_is_true frees)
free_law st es s c (RequestWrite j owner) h frees = absurd (false_is_true frees)
free_law st es s c SeeRequest h frees = absurd (false_is_true frees)
free_law st es s c (ValueWrite j) h frees = absurd (false_is_true frees)
free_law st es s c (ValueRead j) h frees = absurd (false_is_true frees)

-- ---- a leaving stays

leaving_more : (st : Setting) (e : Entry) (es : Trace) (s : Session) (j : Job) → leaving_job st es s ≡ Some j → leaving_job st (e ∷ es) s ≡ Some j
leaving_more st e es s j h = rw h refl

leaving_stays : (st : Setting) (later es : Trace) (s : Session) (j : Job) → leaving_job st es s ≡ Some j → leaving_job st (later ++ es) s ≡ Some j
leaving_stays st [] es s j h = h
leaving_stays st (e ∷ later) es s j h = leaving_more st e (later ++ es) s j (leaving_stays st later es s j h)

pub staying_is_freeless : (st : Setting) (es : Trace) (s : Session) → Orderly st es → IsSession st es s → leaving_job st es s ≡ None → HasNoFree es s
staying_is_freeless st es s law its stays m there mine frees =
    let w : WasLawful st es s m = calls_were_lawful st es s m law its there mine in
    let f : LawfulFree st (front_of w.made) s (made_as w.made) = free_law st (front_of w.made) s (made_as w.made) m.call.purpose w.lawful frees in
    let leaves : is_some (leaving_job st (w.made.entry ∷ w.made.past) s) ≡ true =
    (and_true (is_joined (front_of w.made) s) (is_some (leaving_job st (w.made.entry ∷ w.made.past) s)) f.leaving).1 in
    let j = some_there (leaving_job st (w.made.entry ∷ w.made.past) s) leaves in
    no_value j.0 (leaving_job st es s)
    (subst (λ t. leaving_job st t s ≡ Some j.0) (sym w.made.whole) (leaving_stays st w.made.later (w.made.entry ∷ w.made.past) s j.0 j.1)) stays
