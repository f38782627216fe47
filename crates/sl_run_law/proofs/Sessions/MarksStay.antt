-- Marks of a session stay.
use Rattle.sl_run_law.specs.Sessions.SessionLaws.{MarksStay, Stays}
use Rattle.sl_trace.specs.Sessions.{ended_after, is_join_done, joined_after, refused_after, removed_after}
use Rattle.sl_trace.specs.declared.session.Session.{Session}
use Rattle.sl_trace.proofs.TraceFacts.{reply_to-more}
use Rattle.sl_trace.specs.Traces.{Replied, Trace, reply_to}
use Rattle.sl_trace.specs.declared.effects.Entry.{Entry}
use Rattle.sl_words.proofs.CaseLaws.{none_some}
use Rattle.sl_words.specs.Words.{choose}
use Rattle.std.proofs.Common.{ap, ◌∙◌}
use Rattle.std.specs.Prelude.{Bool, None, Option, Some, false, not, option_and_then, refl, true, [], ℕ, ◌++◌, ◌+◌, ◌∷◌, ◌≡◌}

-- What is made of a reply stays with the reply.
made_of : (f : Replied → Option ℕ) (o p : Option Replied) (k : ℕ) → ((r : Replied) → o ≡ Some r → p ≡ Some r) → option_and_then f o ≡ Some k → option_and_then f p ≡ Some k
made_of f None p k stays h = absurd (none_some k h)
made_of f (Some r) p k stays h = ap (λ q. option_and_then f q) (stays r refl) ∙ h

abbrev if_done : Replied → Option ℕ
if_done r = choose (is_join_done r.reply) (r.at + 1)

abbrev if_refused : Replied → Option ℕ
if_refused r = choose (not (is_join_done r.reply)) (r.at + 1)

abbrev joined_by : Trace → Option ℕ → Option ℕ
joined_by es job = elim job [ None ↦ Some 0 | Some j ↦ option_and_then if_done (reply_to es j) ]

abbrev refused_by : Trace → Option ℕ → Option ℕ
refused_by es job = elim job [ None ↦ None | Some j ↦ option_and_then if_refused (reply_to es j) ]

joined_at : (e : Entry) (es : Trace) (job : Option ℕ) (k : ℕ) → joined_by es job ≡ Some k → joined_by (e ∷ es) job ≡ Some k
joined_at e es None k h = h
joined_at e es (Some j) k h = made_of if_done (reply_to es j) (reply_to (e ∷ es) j) k (λ r is. reply_to-more e es j r is) h

pub joined_more : (e : Entry) (es : Trace) (s : Session) (k : ℕ) → joined_after es s ≡ Some k → joined_after (e ∷ es) s ≡ Some k
joined_more e es s k h = joined_at e es s.job k h

refused_at : (e : Entry) (es : Trace) (job : Option ℕ) (k : ℕ) → refused_by es job ≡ Some k → refused_by (e ∷ es) job ≡ Some k
refused_at e es None k h = absurd (none_some k h)
refused_at e es (Some j) k h = made_of if_refused (reply_to es j) (reply_to (e ∷ es) j) k (λ r is. reply_to-more e es j r is) h

pub refused_more : (e : Entry) (es : Trace) (s : Session) (k : ℕ) → refused_after es s ≡ Some k → refused_after (e ∷ es) s ≡ Some k
refused_more e es s k h = refused_at e es s.job k h

pub removed_more : (e : Entry) (es : Trace) (s : Session) (k : ℕ) → removed_after es s ≡ Some k → removed_after (e ∷ es) s ≡ Some k
removed_more e es s k h = rw h refl

-- ---- refused and joined exclude each other

by_truth : (b : Bool) (n k : ℕ) → choose (not b) n ≡ Some k → choose b n ≡ None
by_truth true n k h = absurd (none_some k h)
by_truth false n k h = refl

by_reply : (o : Option Replied) (k : ℕ) → option_and_then if_refused o ≡ Some k → option_and_then if_done o ≡ None
by_reply None k h = refl
by_reply (Some r) k h = by_truth (is_join_done r.reply) (r.at + 1) k h

by_job : (es : Trace) (job : Option ℕ) (k : ℕ) → refused_by es job ≡ Some k → joined_by es job ≡ None
by_job es None k h = absurd (none_some k h)
by_job es (Some j) k h = by_reply (reply_to es j) k h

pub refused_apart : (es : Trace) (s : Session) (k : ℕ) → refused_after es s ≡ Some k → joined_after es s ≡ None
refused_apart es s k h = by_job es s.job k h

-- ---- ended

abbrev ended_by : Option ℕ → Option ℕ → Option ℕ → Option ℕ
ended_by joined removed refused = elim joined [ Some k ↦ removed | None ↦ refused ]

ended_at : (e : Entry) (es : Trace) (s : Session) (k : ℕ) (o : Option ℕ) → joined_after es s ≡ o → ended_by o (removed_after es s) (refused_after es s) ≡ Some k → ended_after (e ∷ es) s ≡ Some k
ended_at e es s k (Some j) is h =
    ap (λ q. ended_by q (removed_after (e ∷ es) s) (refused_after (e ∷ es) s)) (joined_more e es s j is) ∙ removed_more e es s k h
ended_at e es s k None is h =
    ap (λ q. ended_by q (removed_after (e ∷ es) s) (refused_after (e ∷ es) s)) (refused_apart (e ∷ es) s k (refused_more e es s k h)) ∙ refused_more e es s k h

pub ended_more : (e : Entry) (es : Trace) (s : Session) (k : ℕ) → ended_after es s ≡ Some k → ended_after (e ∷ es) s ≡ Some k
ended_more e es s k h = ended_at e es s k (joined_after es s) refl h

-- ---- by any number of entries

pub stays : (mark : Trace → Session → Option ℕ) → ((e : Entry) (es : Trace) (s : Session) (k : ℕ) → mark es s ≡ Some k → mark (e ∷ es) s ≡ Some k) → Stays mark
stays mark more [] es s k h = h
stays mark more (e ∷ later) es s k h = more e (later ++ es) s k (stays mark more later es s k h)

pub marks_stay : MarksStay
marks_stay =
    record {
      joined = stays joined_after joined_more;
      refused = stays refused_after refused_more;
      removed = stays removed_after removed_more;
      ended = stays ended_after ended_more;
      apart = refused_apart;
    }
