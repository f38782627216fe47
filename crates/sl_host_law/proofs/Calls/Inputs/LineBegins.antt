-- A line whose command is carried out: its job comes behind all, and where it leaves a session the leaving begins.
use Rattle.sl_host_law.proofs.Calls.Inputs.InputHeard.{entry_with, heard, known_heard, member_heard, member_with}
use Rattle.sl_host_law.proofs.SharedFacts.PlainLists.{each_of}
use Rattle.sl_host_state.specs.HeardInputs.{leaves_member, member_leaving}
use Rattle.sl_host_state.specs.KeptState.{HostState, MemberState}
use Rattle.sl_host_state.specs.HostStands.{Keeps, MemberStands}
use Rattle.sl_words.proofs.Lists.{find_inside}
use Rattle.sl_trace.specs.Sessions.{has_open_write, is_join_done, is_joined, is_present, joined_after, leaves, leaving_job, refused_after, removed_after}
use Rattle.sl_trace.specs.declared.delta.DeltaKnown.{DeltaKnown}
use Rattle.sl_trace.specs.declared.session.Begun.{Begun}
use Rattle.sl_trace.specs.declared.session.Session.{Session}
use Rattle.sl_trace.specs.WatchdogConnections.{unregisters}
use Rattle.sl_trace.specs.Traces.{Job, Replied, Setting, Trace, is_before_input, next_job, reply_in, reply_to}
use Rattle.sl_trace.specs.declared.command.Command.TheVariants.{RemLockspace}
use Rattle.sl_trace.specs.declared.command.Command.{Command}
use Rattle.sl_trace.specs.declared.effects.Effects.{Effects}
use Rattle.sl_trace.specs.declared.effects.JobReply.{JobReply}
use Rattle.sl_trace.specs.declared.input.Input.TheVariants.{Line, Wake}
use Rattle.sl_trace.specs.declared.reply.Reply.TheVariants.{IoTimeout, Recovering}
use Rattle.sl_trace.specs.declared.reply.Reply.{Reply}
use Rattle.sl_words.proofs.CaseLaws.{false_is_true, none_some}
use Rattle.sl_words.specs.Words.{choose}
use Rattle.std.proofs.Common.{ap, arith, refl, suc, sym, ◌∙◌}
use Rattle.std.specs.List.{AllByRecursion, list_any}
use Rattle.std.specs.Prelude.{Bool, IsTrue, List, None, Ok, Option, Result, Some, cond, false, find, is_none, is_some, length, not, option_and_then, option_map, true, ℕ, ◌&&◌, ◌+◌, ◌-◌, ◌==◌, ◌||◌, ◌≡◌}

-- ---- a reply of before the input joins nobody

joins_not : (r : Reply) → is_before_input r ≡ true → is_join_done r ≡ false
joins_not (IoTimeout call from to) is = refl
joins_not (Recovering t) is = refl
joins_not r is = absurd (false_is_true is)

-- What is kept of replies that came before the input.
abbrev AllEarly : Effects → Type 0
AllEarly fx = AllByRecursion (λ a. IsTrue (is_before_input a.reply)) fx.replies

joined_by : (st : Setting) (past : Trace) (reading : ℕ) (fx : Effects) (j : ℕ) → AllEarly fx
    → option_and_then (λ r. choose (is_join_done r.reply) (r.at + 1)) (reply_to (heard st past reading fx Wake) j) ≡ option_and_then (λ r. choose (is_join_done r.reply) (r.at + 1)) (reply_to past j)
joined_by st past reading fx j early = by (reply_to past j) where
  new : (o : Option JobReply) → find (λ a. a.job == j) fx.replies ≡ o
      → option_and_then (λ (r : Replied). choose (is_join_done r.reply) (r.at + 1)) (option_map (λ a. record { at = length past; reply = a.reply }) o) ≡ None
  new None is = refl
  new (Some a) is =
      ap (λ b. choose b (length past + 1))
      (joins_not a.reply (each_of (λ (z : JobReply). IsTrue (is_before_input z.reply)) fx.replies a early (find_inside (λ (z : JobReply). z.job == j) fx.replies a is).0))

  by : (o : Option Replied)
      → option_and_then (λ r. choose (is_join_done r.reply) (r.at + 1)) (elim o as (λ z. Option Replied) [ Some r ↦ Some r | None ↦ reply_in j past (entry_with reading fx Wake) ])
      ≡ option_and_then (λ r. choose (is_join_done r.reply) (r.at + 1)) o
  by None = new (find (λ (a : JobReply). a.job == j) fx.replies) refl
  by (Some r) = refl

joined_then : (st : Setting) (past : Trace) (reading : ℕ) (fx : Effects) (s : Session) → AllEarly fx → joined_after (heard st past reading fx Wake) s ≡ joined_after past s
joined_then st past reading fx s early = by s.job where
  by : (o : Option ℕ)
      → elim o as (λ z. Option ℕ) [ None ↦ Some 0 | Some j ↦ option_and_then (λ r. choose (is_join_done r.reply) (r.at + 1)) (reply_to (heard st past reading fx Wake) j) ]
      ≡ elim o as (λ z. Option ℕ) [ None ↦ Some 0 | Some j ↦ option_and_then (λ r. choose (is_join_done r.reply) (r.at + 1)) (reply_to past j) ]
  by None = refl
  by (Some j) = joined_by st past reading fx j early

-- Who is present was joined before this step, if it is joined.
pub joined_before : (st : Setting) (past : Trace) (reading : ℕ) (fx : Effects) (s : Session) → AllEarly fx → is_present (heard st past reading fx Wake) s ≡ true
    → is_joined past s ≡ is_joined (heard st past reading fx Wake) s
joined_before st past reading fx s early present =
    by (joined_after past s) (removed_after past s)
    (sym (ap (λ o. is_none (elim o as (λ z. Option ℕ) [ Some k ↦ removed_after (heard st past reading fx Wake) s | None ↦ refused_after (heard st past reading fx Wake) s ])
    || is_none o && has_open_write (heard st past reading fx Wake) s) (joined_then st past reading fx s early)) ∙ present)
    ∙ sym (ap (λ o. is_some o && is_none (removed_after (heard st past reading fx Wake) s)) (joined_then st past reading fx s early)) where
      removed : Option ℕ → Option ℕ → Option ℕ
      removed o r = elim r as (λ z. Option ℕ) [ Some k ↦ Some k | None ↦ choose (is_some o && list_any (unregisters s.lockspace) fx.moves) (length past + 1) ]

      stays : (k : ℕ) (r : Option ℕ) (b : Bool) → (is_none (removed (Some k) r) || false) ≡ true → is_none r ≡ is_none (removed (Some k) r)
      stays k None b is = sym (left (is_none (removed (Some k) None)) is) where
        left : (c : Bool) → (c || false) ≡ true → c ≡ true
        left true at = refl
        left false at = at
      stays k (Some z) b is = absurd (false_is_true is)

      by : (o r : Option ℕ)
          → (is_none (elim o as (λ z. Option ℕ) [ Some k ↦ removed o r | None ↦ refused_after (heard st past reading fx Wake) s ]) || is_none o && has_open_write (heard st past reading fx Wake) s) ≡ true
          → (is_some o && is_none r) ≡ (is_some o && is_none (removed o r))
      by None r is = refl
      by (Some k) r is = stays k r true is

-- ---- whom a command leaves

no_matter : (b : Bool) → false ≡ (b && false)
no_matter true = refl
no_matter false = refl

pub leaves_by : (c : Command) (m : MemberState) → leaves_member c m ≡ (m.joined && leaves m.who (Ok c))
leaves_by (RemLockspace a) m = refl
leaves_by c m = no_matter m.joined

-- ---- a member's leaving

-- The job of the line.
abbrev pub line_job : Setting → Trace → ℕ → List ℕ → Job
line_job st past reading text = record { number = next_job st past; at = length past; reading = reading; command = st.read text }

-- What a member's leaving is after the line, by whether the line leaves it.
abbrev leaving_with : Option Job → Bool → Job → Option Job
leaving_with old leaves_it job = elim old as (λ z. Option Job) [ Some j ↦ Some j | None ↦ choose leaves_it job ]

pub leaving_line : (st : Setting) (past : Trace) (reading : ℕ) (fx : Effects) (text : List ℕ) (c : Command) (m : MemberState) → st.read text ≡ Ok c → is_joined past m.who ≡ m.joined
    → list_any (λ a. a.job == next_job st past) fx.replies ≡ false
    → leaving_job st (heard st past reading fx (Line text)) m.who ≡ leaving_with (leaving_job st past m.who) (leaves_member c m) (line_job st past reading text)
leaving_line st past reading fx text c m reads joined free =
    ap (λ (o : Result Command ℕ). elim (leaving_job st past m.who) as (λ z. Option Job) [
      | Some j ↦ Some j
      | None ↦ elim (leaves m.who o) as (λ z. Option Job) [
        | false ↦ None
        | true ↦ choose (is_joined past m.who && not (list_any (λ a. a.job == next_job st past) fx.replies)) (line_job st past reading text)
      ]
    ]) reads
    ∙ ap (λ b. elim (leaving_job st past m.who) as (λ z. Option Job) [
      | Some j ↦ Some j
      | None ↦ elim (leaves m.who (Ok c)) as (λ z. Option Job) [
        | false ↦ None
        | true ↦ choose (b && not (list_any (λ a. a.job == next_job st past) fx.replies)) (line_job st past reading text)
      ]
    ]) joined
    ∙ ap (λ b. elim (leaving_job st past m.who) as (λ z. Option Job) [
      | Some j ↦ Some j
      | None ↦ elim (leaves m.who (Ok c)) as (λ z. Option Job) [ false ↦ None | true ↦ choose (m.joined && not b) (line_job st past reading text) ]
    ]) free
    ∙ by (leaving_job st past m.who) (leaves m.who (Ok c)) m.joined
    ∙ ap (λ b. leaving_with (leaving_job st past m.who) b (line_job st past reading text)) (sym (leaves_by c m)) where
      by : (o : Option Job) (l j : Bool)
          → elim o as (λ z. Option Job) [ Some k ↦ Some k | None ↦ elim l as (λ z. Option Job) [ false ↦ None | true ↦ choose (j && true) (line_job st past reading text) ] ]
          ≡ leaving_with o (j && l) (line_job st past reading text)
      by (Some k) l j = refl
      by None true true = refl
      by None true false = refl
      by None false true = refl
      by None false false = refl

-- How the leaving of a job began.
abbrev begun_of : Job → Begun
begun_of j = record { at = j.at; reading = j.reading; kills_from = j.at + 1 }

-- How a leaving that the line begins is kept.
abbrev begun_by : HostState → Begun
begun_by h = record { at = h.entries - 1; reading = h.reading; kills_from = h.entries }

pub member_line : (h : HostState) (st : Setting) (past : Trace) (reading : ℕ) (fx : Effects) (text : List ℕ) (c : Command) (m : MemberState) → Keeps h st (heard st past reading fx Wake) → reading ≡ h.reading
    → leaving_job st (heard st past reading fx (Line text)) m.who ≡ leaving_with (leaving_job st past m.who) (leaves_member c m) (line_job st past reading text)
    → MemberStands st (heard st past reading fx Wake) m → MemberStands st (heard st past reading fx (Line text)) (cond (leaves_member c m) (member_leaving h m) m)
member_line h st past reading fx text c m k now line s = by (leaving_job st past m.who) refl (leaves_member c m) line where
  begun_is : (o : Option Job) → leaving_job st past m.who ≡ o → option_map begun_of o ≡ m.leaving
  begun_is o is =
      sym (ap (λ (z : Option Job). option_map begun_of (leaving_with z false (line_job st past reading text))) is ∙ itself o) ∙ s.leaving where
        itself : (z : Option Job)
            → option_map begun_of (leaving_with z false (line_job st past reading text))
            ≡ option_map begun_of z
        itself None = refl
        itself (Some j) = refl

  -- Its leaving had begun, or the line leaves it not.
  stays : leaving_job st (heard st past reading fx (Line text)) m.who ≡ leaving_with (leaving_job st past m.who) false (line_job st past reading text) → MemberStands st (heard st past reading fx (Line text)) m
  stays is = member_heard st past reading fx (Line text) m tt is s

  new : leaving_job st (heard st past reading fx (Line text)) m.who ≡ Some (line_job st past reading text)
      → MemberStands st (heard st past reading fx (Line text)) (let d : DeltaKnown = m.known in record m { leaving = Some (begun_by h); known = record d { leaving = Some h.next_job } })
  new is =
      let entries : suc (length past) ≡ h.entries = k.entries in
      let at : length past ≡ h.entries - 1 = omega (arith, entries) in
      let from : length past + 1 ≡ h.entries = omega (arith, entries) in
      member_with st past reading fx (Line text) m (Some (begun_by h)) (let d : DeltaKnown = m.known in record d { leaving = Some h.next_job }) tt
      (ap (option_map begun_of) is
      ∙ ap (λ (n : ℕ). Some (record { at = n; reading = reading; kills_from = length past + 1 })) at
      ∙ ap (λ (n : ℕ). Some (record { at = h.entries - 1; reading = n; kills_from = length past + 1 })) now
      ∙ ap (λ (n : ℕ). Some (record { at = h.entries - 1; reading = h.reading; kills_from = n })) from)
      (known_heard st past reading fx (Line text) m (Some h.next_job) tt (ap (option_map (λ (j : Job). j.number)) is ∙ ap (λ n. Some n) k.lines) s) s

  by : (o : Option Job) → leaving_job st past m.who ≡ o → (b : Bool)
      → leaving_job st (heard st past reading fx (Line text)) m.who ≡ leaving_with (leaving_job st past m.who) b (line_job st past reading text)
      → MemberStands st (heard st past reading fx (Line text)) (cond b (member_leaving h m) m)
  by o is false at = stays at
  by None is true at = leaving m.leaving refl where
    leaving : (l : Option Begun) → m.leaving ≡ l
        → MemberStands st (heard st past reading fx (Line text))
        (let d : DeltaKnown = m.known in
        elim l as (λ z. MemberState) [ Some b ↦ m | None ↦ record m { leaving = Some (begun_by h); known = record d { leaving = Some h.next_job } } ])
    leaving None none = new (at ∙ ap (λ z. leaving_with z true (line_job st past reading text)) is)
    leaving (Some b) some = absurd (none_some b (begun_is None is ∙ some))
  by (Some j) is true at = leaving m.leaving refl where
    leaving : (l : Option Begun) → m.leaving ≡ l
        → MemberStands st (heard st past reading fx (Line text))
        (let d : DeltaKnown = m.known in
        elim l as (λ z. MemberState) [ Some b ↦ m | None ↦ record m { leaving = Some (begun_by h); known = record d { leaving = Some h.next_job } } ])
    leaving (Some b) some = stays (at ∙ (ap (λ z. leaving_with z true (line_job st past reading text)) is ∙ sym (ap (λ z. leaving_with z false (line_job st past reading text)) is)))
    leaving None none = absurd (none_some (record { at = j.at; reading = j.reading; kills_from = j.at + 1 }) (sym (begun_is (Some j) is ∙ none)))
