-- A session that has not begun yet: it has no call, its job has no reply, so there is nothing to tell of it.
use Rattle.sl_host_law.proofs.Calls.Joinings.CallsBelow.{AllOwned, none_yet}
use Rattle.sl_host_state.proofs.NewHost.{new_asked, new_watch}
use Rattle.sl_host_state.specs.NewHost.{IsOfProgram, new_joining, new_member, sizes_in}
use Rattle.sl_watch.specs.ToldLooks.{blank_watch}
use Rattle.sl_host_state.specs.HostStands.{AreInTurn, AskedStands, JoinStands, MemberStands, WatchKeeps, config_of}
use Rattle.sl_trace.specs.Leases.{spots_in, value_written}
use Rattle.sl_words.proofs.Lists.{contains_none, find_inside, kept}
use Rattle.sl_trace.specs.Sessions.{begun_in, calls_of, free_write, generation_in, is_call_of, is_delta_purpose, is_join_done, is_joined, is_renewal, joined_after, leaves, leaving_in, leaving_job, recovers, recovery_of, refused_after, removed_after, renewal_in, renewed_by, renewing, renewing_after, seq_in, sessions, shows_other}
use Rattle.sl_trace.specs.declared.delta.DeltaKnown.{DeltaKnown}
use Rattle.sl_trace.specs.declared.session.Begun.{Begun}
use Rattle.sl_trace.specs.declared.session.Renewing.{Renewing}
use Rattle.sl_trace.specs.declared.session.Session.{Session}
use Rattle.sl_time.specs.Times.{fail}
use Rattle.sl_trace.specs.Traces.{Job, Replied, Setting, Submitted, Trace, call_numbered, line_in, next_job, reply_in, reply_to, submitted, unanswered}
use Rattle.sl_trace.specs.declared.effects.Entry.{Entry}
use Rattle.sl_trace.specs.declared.input.Answer.TheVariants.{Failed, Read, Written}
use Rattle.sl_trace.specs.declared.input.Input.TheVariants.{Answer as Told, Exit, Line, Number, Spawned, Wake}
use Rattle.sl_trace.specs.declared.input.Input.{Input}
use Rattle.sl_words.proofs.CaseLaws.{none_some, some_value}
use Rattle.sl_words.specs.Words.{choose}
use Rattle.std.proofs.Common.{ap, arith, refl, subst, sym, ◌∙◌}
use Rattle.std.proofs.lemmas.List.{length-append}
use Rattle.std.specs.List.{AllByRecursion, list_any}
use Rattle.std.specs.Prelude.{Bool, Contains, IsTrue, List, None, Option, Some, [], false, filter, is_none, is_some, length, nat_le, not, option_and_then, option_map, replicate, true, unwrap_or, ℕ, ◌&&◌, ◌++◌, ◌+◌, ◌==◌, ◌||◌, ◌∷◌, ◌≡◌, ◌≤◌}

-- It has its job and its number, and after these nothing of it has been done.
pub record IsToCome (st : Setting) (es : Trace) (s : Session) (number : ℕ) : Type 0 where
  pub job : s.job ≡ Some number
  pub owned : AllOwned st es
  pub later : length (sessions st es) ≤ s.number
  pub unreplied : reply_to es number ≡ None

-- So it was before.
before : (past now : Option Replied) → elim past as (λ z. Option Replied) [ Some r ↦ Some r | None ↦ now ] ≡ None → past ≡ None
before None now none = refl
before (Some r) now none = absurd (none_some r (sym none))

pub came_later : (st : Setting) (e : Entry) (es : Trace) (s : Session) (job : ℕ) → IsToCome st (e ∷ es) s job → IsToCome st es s job
came_later st e es s job k =
    let grown : length (sessions st es ++ begun_in st es (length (sessions st es)) e) ≡ length (sessions st es) + length (begun_in st es (length (sessions st es)) e) =
    length-append (sessions st es) (begun_in st es (length (sessions st es)) e)
    in
    let later : length (sessions st es ++ begun_in st es (length (sessions st es)) e) ≤ s.number = k.later in
    record { job = k.job; owned = k.owned.1; later = omega (arith, grown, later); unreplied = before (reply_to es job) (reply_in job es e) k.unreplied }

-- ---- it is not joined, and not refused

pub not_joined_yet : (st : Setting) (es : Trace) (s : Session) (job : ℕ) → IsToCome st es s job → joined_after es s ≡ None
not_joined_yet st es s job k = by s.job k.job where
  by : (o : Option ℕ) → o ≡ Some job → elim o as (λ z. Option ℕ) [ None ↦ Some 0 | Some j ↦ option_and_then (λ a. choose (is_join_done a.reply) (a.at + 1)) (reply_to es j) ] ≡ None
  by None is = absurd (none_some job is)
  by (Some j) is = ap (λ n. option_and_then (λ (a : Replied). choose (is_join_done a.reply) (a.at + 1)) (reply_to es n)) (some_value j job is) ∙ ap (option_and_then (λ (a : Replied). choose (is_join_done a.reply) (a.at + 1))) k.unreplied

pub not_refused_yet : (st : Setting) (es : Trace) (s : Session) (job : ℕ) → IsToCome st es s job → refused_after es s ≡ None
not_refused_yet st es s job k = by s.job k.job where
  by : (o : Option ℕ) → o ≡ Some job → elim o as (λ z. Option ℕ) [ None ↦ None | Some j ↦ option_and_then (λ a. choose (not (is_join_done a.reply)) (a.at + 1)) (reply_to es j) ] ≡ None
  by None is = absurd (none_some job is)
  by (Some j) is = ap (λ n. option_and_then (λ (a : Replied). choose (not (is_join_done a.reply)) (a.at + 1)) (reply_to es n)) (some_value j job is) ∙ ap (option_and_then (λ (a : Replied). choose (not (is_join_done a.reply)) (a.at + 1))) k.unreplied

joins_not : (st : Setting) (es : Trace) (s : Session) (job : ℕ) → IsToCome st es s job → is_joined es s ≡ false
joins_not st es s job k = ap (λ o. is_some o && is_none (removed_after es s)) (not_joined_yet st es s job k)

-- ---- it has not renewed

none_renewed : (st : Setting) (es : Trace) (s : Session) (job : ℕ) (i : Input) → IsToCome st es s job → renewed_by es s i ≡ None
none_renewed st es s job (Told n Written) k = by (call_numbered es n) refl where
  by : (o : Option Submitted) → call_numbered es n ≡ o → option_and_then (λ m. choose (is_call_of s m && is_renewal m.call.purpose) m.reading) o ≡ None
  by None is = refl
  by (Some m) is = its (is_call_of s m) refl where
    its : (b : Bool) → is_call_of s m ≡ b → choose (is_call_of s m && is_renewal m.call.purpose) m.reading ≡ None
    its false other = ap (λ b. choose (b && is_renewal m.call.purpose) m.reading) other
    its true own =
        absurd (contains_none m (subst (λ ms. Contains ms m) (none_yet st es s k.owned k.later)
        (kept (is_call_of s) (submitted es) m own (find_inside (λ (c : Submitted). c.call.number == n) (submitted es) m is).0)))
none_renewed st es s job (Told n (Read bytes)) k = refl
none_renewed st es s job (Told n Failed) k = refl
none_renewed st es s job (Line text) k = refl
none_renewed st es s job (Number text) k = refl
none_renewed st es s job (Exit p) k = refl
none_renewed st es s job (Spawned p ok) k = refl
none_renewed st es s job Wake k = refl

-- How it stands before its first renewal.
abbrev unrenewed : Session → Renewing
unrenewed s = record { last = s.renewed; recovery = None }

pub not_renewed_yet : (st : Setting) (es : Trace) (s : Session) (job : ℕ) → IsToCome st es s job → renewing st es s ≡ unrenewed s
not_renewed_yet st [] s job k = refl
not_renewed_yet st (e ∷ es) s job k =
    let was = came_later st e es s job k in
    ap (λ r. renewing_after st es s r e) (not_renewed_yet st es s job was)
    ∙ ap (λ b. elim (b && nat_le (s.renewed + fail st.timing) e.reading) as (λ z. Renewing) [
      | true ↦ recovers es e (length es) (unrenewed s)
      | false ↦ elim (b && shows_other st es s e.input) as (λ z. Renewing) [
        | true ↦ recovers es e (length es + 1) (unrenewed s)
        | false ↦ (let r : Renewing = unrenewed s in record r { last = unwrap_or (renewed_by es s e.input) r.last })
      ]
    ]) (joins_not st es s job was)
    ∙ ap (λ (o : Option ℕ). record { last = unwrap_or o s.renewed; recovery = None }) (none_renewed st es s job e.input was)

-- ---- it is not leaving

none_leaving : (b : Option (List ℕ)) (l : List ℕ → Bool) (joined answered : Bool) (j : List ℕ → Job) → joined ≡ false
    → elim b as (λ z. Option Job) [ None ↦ None | Some text ↦ elim (l text) as (λ z. Option Job) [ false ↦ None | true ↦ choose (joined && answered) (j text) ] ] ≡ None
none_leaving None l joined answered j is = refl
none_leaving (Some text) l joined answered j is = by (l text) where
  by : (b : Bool) → elim b as (λ z. Option Job) [ false ↦ None | true ↦ choose (joined && answered) (j text) ] ≡ None
  by false = refl
  by true = ap (λ c. choose (c && answered) (j text)) is

pub not_leaving_yet : (st : Setting) (es : Trace) (s : Session) (job : ℕ) → IsToCome st es s job → leaving_job st es s ≡ None
not_leaving_yet st [] s job k = refl
not_leaving_yet st (e ∷ es) s job k =
    let was = came_later st e es s job k in
    ap (λ o. elim o as (λ z. Option Job) [ Some j ↦ Some j | None ↦ leaving_in st es s e ]) (not_leaving_yet st es s job was)
    ∙ none_leaving (line_in e.input) (λ text. leaves s (st.read text)) (is_joined es s) (not (list_any (λ a. a.job == next_job st es) e.effects.replies))
    (λ text. record { number = next_job st es; at = length es; reading = e.reading; command = st.read text }) (joins_not st es s job was)

-- ---- as a member

abbrev begun_known : Session → ℕ → List Submitted → Option Begun → Option Job → DeltaKnown
begun_known s renewed ms recovery leaving =
    record {
      generation = generation_in s ms;
      seq = seq_in s ms;
      renewed = renewal_in s ms;
      busy = list_any (λ m. is_delta_purpose m.call.purpose) (unanswered ms);
      recovering = is_some recovery;
      leaving = option_map (λ j. j.number) leaving;
      freed = is_some (free_write ms);
    }

new_joining_stands : JoinStands new_joining []
new_joining_stands = record { watched = refl; since = refl; claim = refl; newest = refl }

some_is_given : (o : Option ℕ) (job : ℕ) → o ≡ Some job → is_none o ≡ false
some_is_given o job is = ap (λ z. is_none z) is

pub new_stands : (st : Setting) (es : Trace) (s : Session) (job : ℕ) → IsOfProgram st.layout → IsToCome st es s job → MemberStands st es (new_member (config_of st) s)
new_stands st es s job program k =
    let none : calls_of es s ≡ [] = none_yet st es s k.owned k.later in
    record {
      joined = joins_not st es s job k ∙ sym (some_is_given s.job job k.job);
      refused = ap (λ o. is_some o) (not_refused_yet st es s job k);
      known =
          ap (λ ms. begun_known s s.renewed ms (recovery_of st es s) (leaving_job st es s)) none
          ∙ ap (λ (r : Renewing). begun_known s s.renewed [] r.recovery (leaving_job st es s)) (not_renewed_yet st es s job k)
          ∙ ap (λ o. begun_known s s.renewed [] None o) (not_leaving_yet st es s job k);
      joining = λ still. subst (λ ms. JoinStands new_joining ms) (sym none) new_joining_stands;
      renewing = not_renewed_yet st es s job k;
      leaving = ap (λ o. option_map (λ (j : Job). record { at = j.at; reading = j.reading; kills_from = j.at + 1 }) o) (not_leaving_yet st es s job k);
      asked = subst (AskedStands st (replicate st.layout.hosts None)) (sym none) (new_asked st);
      turn = subst (λ ms. AreInTurn (filter (λ m. is_delta_purpose m.call.purpose) ms)) (sym none) tt;
      seen = subst (WatchKeeps st (blank_watch st.timing (sizes_in st.layout))) (sym none) (new_watch st program);
      spots = ap (spots_in st.layout) none;
      leases = λ i l there. absurd (none_some l there);
      valued = subst (λ ms. AllByRecursion (λ d. IsTrue (is_none (value_written d) || false)) ms) (sym none) tt;
      values = λ i l there. absurd (none_some l there);
    }
