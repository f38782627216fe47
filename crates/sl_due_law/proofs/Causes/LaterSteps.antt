-- What comes later in an entry, and whose the replies are that an act adds.
use Rattle.sl_due_facts.proofs.Acts.AddedAtEnd.{contains_last}
use Rattle.sl_due_facts.specs.Acts.TraceSoFar.{entry_of}
use Rattle.sl_area.specs.AreaSizes.{Layout}
use Rattle.sl_area.specs.AreaLayout.{sector_of}
use Rattle.sl_due_facts.proofs.Jobs.JobFactsGrow.{contains_left, contains_right}
use Rattle.sl_due_facts.proofs.Jobs.SessionsStand.{running_before}
use Rattle.sl_trace.specs.Leases.{is_on, lease_step}
use Rattle.sl_due_facts.proofs.AddedEffects.CallsGrow.{mine_more, others_stay}
use Rattle.sl_sector.specs.declared.sector.DeltaRec.{DeltaRec}
use Rattle.sl_trace.specs.Sessions.{calls_of, delta_of_record, generation_in, generation_of, given_number, is_call_of, is_survey_purpose, last_delta, sessions}
use Rattle.sl_trace.specs.Sightings.{evidence, evidence_in, look_of, sightings}
use Rattle.sl_trace.specs.declared.sighting.Sighting.{Sighting}
use Rattle.sl_due_facts.specs.Facts.HeardCall.{heard_by}
use Rattle.sl_due_facts.specs.Facts.AllFacts.{WholeTrace}
use Rattle.sl_words.proofs.CaseLaws.{false_is_true, is_false, not_both, true_or_false}
use Rattle.std.specs.List.{cons_option}
use Rattle.std.specs.Option.{option_map_or}
use Rattle.sl_due_law.specs.Causes.CauseFacts.{CauseFacts}
use Rattle.sl_due_law.specs.Causes.CausedSoFar.{CausedSoFar, HasCause, IsAtOnce, IsCarried, IsConcluded, IsLater, KeepsLeases, StaysCaused, on_lease}
use Rattle.sl_due.specs.Steps.{Step, with_effects, add_call_of, add_end, add_grant, add_move, add_reply, add_signal, add_start, seen, with_input}
use Rattle.sl_due_facts.proofs.Jobs.CallsStay.{IsLate, calls_stay}
use Rattle.sl_due_facts.proofs.Jobs.EffectsAreAllowed.{Allows}
use Rattle.sl_words.proofs.Numbers.{number_itself}
use Rattle.sl_trace.specs.declared.session.Session.{Session}
use Rattle.sl_trace.proofs.TraceFacts.{submitted-push}
use Rattle.sl_trace.specs.Traces.{Answered, Replied, Setting, Submitted, Trace, reply_to, bytes_given, is_running, new_call, next_call, record_of, submitted}
use Rattle.sl_trace.specs.declared.effects.Call.{Call}
use Rattle.sl_trace.specs.declared.effects.Effects.{Effects}
use Rattle.sl_trace.specs.declared.effects.Grant.{Grant}
use Rattle.sl_trace.specs.declared.effects.JobReply.{JobReply}
use Rattle.sl_trace.specs.declared.effects.Move.{Move}
use Rattle.sl_trace.specs.declared.effects.Op.{Op}
use Rattle.sl_trace.specs.declared.effects.Purpose.{Purpose}
use Rattle.sl_trace.specs.declared.input.Answer.{Answer}
use Rattle.sl_trace.specs.declared.effects.Start.{Start}
use Rattle.sl_trace.specs.declared.input.Input.TheVariants.{Answer as Told, Line, Wake}
use Rattle.sl_trace.specs.declared.input.Input.{Input}
use Rattle.sl_trace.specs.declared.reply.Reply.{Reply}
use Rattle.std.proofs.Common.{ap, append_assoc, inl, inr, refl, subst, sym, ◌∙◌}
use Rattle.std.specs.Prelude.{Bool, Contains, List, None, Option, Some, [], cond, false, filter, find, is_none, is_some, length, option_and_then, option_map, true, ℕ, ◌&&◌, ◌++◌, ◌-◌, ◌==◌, ◌∷◌, ◌≡◌, ◌⊎◌}

-- ---- what a call leaves of a session's leases

look_none : (g : Layout) (id : ℕ) (m : Submitted) → m.answer ≡ None → look_of g id m ≡ None
look_none g id m none = by (is_survey_purpose m.call.purpose) where
  by : (b : Bool) → (elim b as (λ z. Option Sighting) [
    | false ↦ None
    | true ↦ option_and_then (λ (a : Answered).
        option_map (λ bytes. record { before = m.reading; after = a.reading; bytes = sector_of g bytes (id - 1) }) (bytes_given a.answer)) m.answer
  ]) ≡ None
  by false = refl
  by true =
      ap (λ o. option_and_then (λ (a : Answered). option_map (λ bytes. record { before = m.reading; after = a.reading; bytes = sector_of g bytes (id - 1) }) (bytes_given a.answer)) o) none

same_evidence : (st : Setting) (m : Submitted) (ms : List Submitted) (id n : ℕ) → m.answer ≡ None → evidence_in st (m ∷ ms) id n ≡ evidence_in st ms id n
same_evidence st m ms id n none =
    ap (λ (o : Option Sighting). evidence st.timing st.layout id n (cons_option o (sightings st.layout id ms))) (look_none st.layout id m none)

leases_same : (st : Setting) (s : Session) (ms ns : List Submitted) → ns ≡ ms → KeepsLeases st s ms ns
leases_same st s ms ns same =
    record { leases = λ at. ap (λ ks. on_lease st at ks) same; generation = ap (λ ks. generation_in s ks) same; shown = λ id n. ap (λ ks. evidence_in st ks id n) same }

leases_then : (st : Setting) (s : Session) (ms ns ks : List Submitted) → KeepsLeases st s ms ns → KeepsLeases st s ns ks → KeepsLeases st s ms ks
leases_then st s ms ns ks a b =
    record { leases = λ at. b.leases at ∙ a.leases at; generation = b.generation ∙ a.generation; shown = λ id n. b.shown id n ∙ a.shown id n }

-- The call is of no lease, and writes no other generation.
abbrev pub IsQuietCall : Step → Session → Purpose → Op → Type 0
IsQuietCall x s p op =
    (lease_step p ≡ None)
    × ((d : DeltaRec) → option_and_then delta_of_record (record_of op) ≡ Some d → (z : Session) → Contains (sessions x.setting x.past) z → (s.number == z.number) ≡ true → d.generation ≡ generation_of (seen x) z)

quiet_call : (x y : Step) (s z : Session) (path : List ℕ) (p : Purpose) (o : ℕ) (op : Op) → IsQuietCall x s p op → Contains (sessions x.setting x.past) z
    → KeepsLeases x.setting z (calls_of (seen x) z) (calls_of (seen y) z) → KeepsLeases x.setting z (calls_of (seen x) z) (calls_of (seen (add_call_of s.number path p o op y)) z)
quiet_call x y s z path p o op may there k = by (true_or_false (s.number == z.number)) where
  made : Call
  made = record { number = next_call y.setting (seen y); session = s.number; purpose = p; path = path; offset = o; op = op }

  new : Submitted
  new = new_call (length y.past) y.reading made

  ms : List Submitted
  ms = calls_of (seen y) z

  generation : (s.number == z.number) ≡ true → (d : Option DeltaRec) → option_and_then delta_of_record (record_of op) ≡ d
      → option_map_or (λ (r : DeltaRec). r.generation) (elim d as (λ q. Option DeltaRec) [ Some r ↦ Some r | None ↦ last_delta ms ]) (given_number z) ≡ generation_of (seen x) z
  generation mine None is = k.generation
  generation mine (Some d) is = may.1 d is z there mine

  by : ((s.number == z.number) ≡ true) ⊎ ((s.number == z.number) ≡ false) → KeepsLeases x.setting z (calls_of (seen x) z) (calls_of (seen (add_call_of s.number path p o op y)) z)
  by (inr other) =
      leases_then x.setting z (calls_of (seen x) z) ms (calls_of (seen (add_call_of s.number path p o op y)) z) k
      (leases_same x.setting z ms (calls_of (seen (add_call_of s.number path p o op y)) z) (others_stay (entry_of y) y.past made z other))
  by (inl mine) =
      let grown : calls_of (seen (add_call_of s.number path p o op y)) z ≡ new ∷ ms = mine_more (entry_of y) y.past made z mine in
      record {
        leases = λ at.
            ap (λ ks. on_lease x.setting at ks) grown
            ∙ (ap (λ b. cond (is_some b && is_on x.setting.layout at made) (new ∷ on_lease x.setting at ms) (on_lease x.setting at ms)) may.0 ∙ k.leases at);
        generation = ap (λ ks. generation_in z ks) grown ∙ generation mine (option_and_then delta_of_record (record_of op)) refl;
        shown = λ id n. ap (λ ks. evidence_in x.setting ks id n) grown ∙ (same_evidence x.setting new ms id n refl ∙ k.shown id n);
      }

-- ---- later steps

pub itself : (x : Step) → IsLater x x
itself x =
    record {
      setting = refl;
      before = refl;
      reading = refl;
      carried = λ told. record { input = refl; more = []; calls = refl; answered = λ n over. over; granted = λ g there. there; quiet = λ done s there. leases_same x.setting s (calls_of (seen x) s) (calls_of (seen x) s) refl };
    }

-- What is concluded stays so.
concluded_then : (x y : Step) → IsCarried x y → IsConcluded x → IsConcluded y
concluded_then x y a d =
    record {
      call = d.call;
      there = subst (λ ms. Contains ms d.call) (sym a.calls) (contains_right a.more (submitted (seen x)) d.call d.there);
      heard = ap (λ i. heard_by i) a.input ∙ d.heard;
      job = d.job;
      step = d.step;
      purpose = d.purpose;
      over = a.answered d.job d.over;
    }

pub after_that : (x y z : Step) → IsLater x y → IsLater y z → IsLater x z
after_that x y z f g = record { setting = g.setting ∙ f.setting; before = g.before ∙ f.before; reading = g.reading ∙ f.reading; carried = λ told. carry told (f.carried told) } where
  on : IsCarried x y → IsCarried y z → IsCarried x z
  on a b =
      record {
        input = b.input ∙ a.input;
        more = b.more ++ a.more;
        calls = b.calls ∙ (ap (λ ms. b.more ++ ms) a.calls ∙ sym (append_assoc b.more a.more (submitted (seen x))));
        answered = λ n over. b.answered n (a.answered n over);
        granted = λ g there. b.granted g (a.granted g there);
        quiet = λ done s there.
            leases_then x.setting s (calls_of (seen x) s) (calls_of (seen y) s) (calls_of (seen z) s) (a.quiet done s there)
            (subst (λ st. KeepsLeases st s (calls_of (seen y) s) (calls_of (seen z) s)) f.setting
            (b.quiet (concluded_then x y a done) s (subst (λ t. Contains (sessions y.setting t) s) (sym f.before) (subst (λ st. Contains (sessions st x.past) s) (sym f.setting) there))));
      }

  carry : (x.input ≡ Wake → ⊥) → IsCarried x y → IsCarried x z
  carry told a = on a (g.carried (λ wake. told (sym a.input ∙ wake)))

-- ---- what an act allows, from where it began

-- What has become of the step where an act began.
pub record Going (these : Reply → Bool) (x y : Step) : Type 0 where
  pub later : IsLater x y
  pub input : y.input ≡ x.input
  pub replies : (a : JobReply) → Contains y.effects.replies a → these a.reply ≡ true → Contains x.effects.replies a ⊎ StaysCaused x a
  pub starts : (k : Start) → Contains y.effects.starts k → Contains x.effects.starts k ⊎ (x.input ≡ Wake → k.job ≡ None)

abbrev pub MayAnswer : (Reply → Bool) → Step → ℕ → Reply → Type 0
MayAnswer these x j r = IsLate x r × (these r ≡ true → StaysCaused x (record { job = j; reply = r }))

abbrev pub MayCall : Step → Session → List ℕ → Purpose → ℕ → Op → Type 0
MayCall x s path p o op = IsConcluded x → IsQuietCall x s p op

abbrev pub MayStart : Step → Option ℕ → Type 0
MayStart x o = x.input ≡ Wake → o ≡ None

abbrev pub AnyMove : Move → Type 0
AnyMove m = Unit {0}

pub begins : (these : Reply → Bool) (x : Step) → Going these x x
begins these x = record { later = itself x; input = refl; replies = λ a there shown. inl there; starts = λ k there. inl there }

-- An effect that leaves calls and replies.
plain : (these : Reply → Bool) (x y z : Step) → Going these x y → z.setting ≡ y.setting → z.past ≡ y.past → z.reading ≡ y.reading → z.input ≡ y.input → submitted (seen z) ≡ submitted (seen y)
    → z.effects.replies ≡ y.effects.replies → z.effects.starts ≡ y.effects.starts → ((g : Grant) → Contains y.effects.grants g → Contains z.effects.grants g) → ((n : ℕ) → is_running (seen z) n ≡ is_running (seen y) n) → Going these x z
plain these x y z k setting past reading input calls same starts grants runs =
    record {
      later = record { setting = setting ∙ k.later.setting; before = past ∙ k.later.before; reading = reading ∙ k.later.reading; carried = λ told. on (k.later.carried told) };
      input = input ∙ k.input;
      replies = λ a there shown. k.replies a (subst (λ rs. Contains rs a) same there) shown;
      starts = λ q there. k.starts q (subst (λ ks. Contains ks q) starts there);
    } where
      on : IsCarried x y → IsCarried x z
      on a =
          record {
            input = input ∙ a.input;
            more = a.more;
            calls = calls ∙ a.calls;
            answered = λ n over. runs n ∙ a.answered n over;
            granted = λ g there. grants g (a.granted g there);
            quiet = λ done s there.
                leases_then x.setting s (calls_of (seen x) s) (calls_of (seen y) s) (calls_of (seen z) s) (a.quiet done s there)
                (leases_same x.setting s (calls_of (seen y) s) (calls_of (seen z) s) (ap (λ ms. filter (is_call_of s) ms) calls));
          }

late_there : (these : Reply → Bool) (x y : Step) (r : Reply) → Going these x y → IsLate x r → IsLate y r
late_there these x y r k may n a told =
    elim (may n a (sym k.input ∙ told)) [ inl after ↦ inl after | inr none ↦ inr (λ m there its. none m (subst (λ es. Contains (submitted es) m) k.later.before there) its) ]

more_calls : (these : Reply → Bool) (x y : Step) (s : Session) (path : List ℕ) (p : Purpose) (o : ℕ) (op : Op) → MayCall x s path p o op → Going these x y → Going these x (add_call_of s.number path p o op y)
more_calls these x y s path p o op may k =
    record {
      later = record { setting = k.later.setting; before = k.later.before; reading = k.later.reading; carried = λ told. on (k.later.carried told) };
      input = k.input;
      replies = k.replies;
      starts = k.starts;
    } where
      made : Call
      made = record { number = next_call y.setting (seen y); session = s.number; purpose = p; path = path; offset = o; op = op }

      on : IsCarried x y → IsCarried x (add_call_of s.number path p o op y)
      on a =
          record {
            input = a.input;
            more = new_call (length y.past) y.reading made ∷ a.more;
            calls = submitted-push y.past (entry_of y) made ∙ ap (λ ms. new_call (length y.past) y.reading made ∷ ms) a.calls;
            answered = a.answered;
            granted = a.granted;
            quiet = λ done z there. quiet_call x y s z path p o op (may done) there (a.quiet done z there);
          }

still_over : (y : Step) (j : ℕ) (r : Reply) (n : ℕ) → is_running (seen y) n ≡ false → is_running (seen (add_reply j r y)) n ≡ false
still_over y j r n over = is_false (is_running (seen (add_reply j r y)) n) (λ runs. not_both (is_running (seen y) n) (running_before y j r n runs) over)

more_replies : (these : Reply → Bool) (x y : Step) (j : ℕ) (r : Reply) → MayAnswer these x j r → Going these x y → Going these x (add_reply j r y)
more_replies these x y j r may k =
    record {
      later = record { setting = k.later.setting; before = k.later.before; reading = k.later.reading; carried = λ told. on (k.later.carried told) };
      input = k.input;
      replies = λ a there shown. by a shown (contains_last y.effects.replies (record { job = j; reply = r }) a there);
      starts = k.starts;
    } where
      calls : submitted (seen (add_reply j r y)) ≡ submitted (seen y)
      calls = calls_stay y j r (late_there these x y r k may.0)

      on : IsCarried x y → IsCarried x (add_reply j r y)
      on a =
          record {
            input = a.input;
            more = a.more;
            calls = calls ∙ a.calls;
            answered = λ n over. still_over y j r n (a.answered n over);
            granted = a.granted;
            quiet = λ done s there.
                leases_then x.setting s (calls_of (seen x) s) (calls_of (seen y) s) (calls_of (seen (add_reply j r y)) s) (a.quiet done s there)
                (leases_same x.setting s (calls_of (seen y) s) (calls_of (seen (add_reply j r y)) s) (ap (λ ms. filter (is_call_of s) ms) calls));
          }

      by : (a : JobReply) → these a.reply ≡ true → Contains y.effects.replies a ⊎ (record { job = j; reply = r } ≡ a) → Contains x.effects.replies a ⊎ StaysCaused x a
      by a shown (inl old) = k.replies a old shown
      by a shown (inr new) = inr (subst (λ b. StaysCaused x b) new (may.1 (subst (λ (b : JobReply). these b.reply ≡ true) (sym new) shown)))

more_starts : (these : Reply → Bool) (x y : Step) (s : Start) → MayStart x s.job → Going these x y → Going these x (add_start s y)
more_starts these x y s may k =
    record {
      later = record { setting = k.later.setting; before = k.later.before; reading = k.later.reading; carried = λ told. on (k.later.carried told) };
      input = k.input;
      replies = k.replies;
      starts = λ q there. by q (contains_last y.effects.starts s q there);
    } where
      on : IsCarried x y → IsCarried x (add_start s y)
      on a = record { input = a.input; more = a.more; calls = a.calls; answered = a.answered; granted = a.granted; quiet = a.quiet }

      by : (q : Start) → Contains y.effects.starts q ⊎ (s ≡ q) → Contains x.effects.starts q ⊎ (x.input ≡ Wake → q.job ≡ None)
      by q (inl old) = k.starts q old
      by q (inr new) = inr (λ wake. ap (λ (z : Start). z.job) (sym new) ∙ may wake)

pub going : (these : Reply → Bool) (x : Step) → Allows (Going these x) (Going these x) (MayAnswer these x) (MayCall x) (MayStart x) AnyMove
going these x =
    record {
      ends = λ y e k. plain these x y (add_end e y) k refl refl refl refl refl refl refl (λ g there. there) (λ n. refl);
      signals = λ y p signal k. plain these x y (add_signal p signal y) k refl refl refl refl refl refl refl (λ g there. there) (λ n. refl);
      moves = λ y m may k. plain these x y (add_move m y) k refl refl refl refl refl refl refl (λ g there. there) (λ n. refl);
      grants = λ y g k. plain these x y (add_grant g y) k refl refl refl refl refl refl refl (λ h there. contains_left y.effects.grants (g ∷ []) h there) (λ n. refl);
      starts = λ y s may k. more_starts these x y s may k;
      replies = λ y j r may k. more_replies these x y j r may k;
      calls = λ y s path p o op may k. more_calls these x y s path p o op may k;
      rest = λ y k. k;
    }

-- ---- what is caused stays so

pub before_later : (x z : Step) → IsLater x z → WholeTrace x.setting x.past → WholeTrace z.setting z.past
before_later x z later w = subst (λ st. WholeTrace st z.past) (sym later.setting) (subst (λ t. WholeTrace x.setting t) (sym later.before) w)

pub facts_later : (x z : Step) → IsLater x z → CauseFacts x.setting x.past → CauseFacts z.setting z.past
facts_later x z later w = subst (λ st. CauseFacts st z.past) (sym later.setting) (subst (λ t. CauseFacts x.setting t) (sym later.before) w)

pub still_caused : (these : Input → Reply → Bool) (x z : Step) → ((a : JobReply) → IsAtOnce x a → IsAtOnce z a) → Going (these x.input) x z → CausedSoFar these x → CausedSoFar these z
still_caused these x z once g h =
    record {
      before = before_later x z g.later h.before;
      facts = facts_later x z g.later h.facts;
      causes = λ a there shown apart. let here : these x.input a.reply ≡ true = ap (λ i. these i a.reply) (sym g.input) ∙ shown in by a here apart (g.replies a there here);
      jobless = λ wake k there. let was : x.input ≡ Wake = sym g.input ∙ wake in elim (g.starts k there) [ inl old ↦ h.jobless was k old | inr new ↦ new was ];
    } where
      by : (a : JobReply) → these x.input a.reply ≡ true → (IsAtOnce z a → ⊥) → Contains x.effects.replies a ⊎ StaysCaused x a → StaysCaused z a
      by a shown apart (inl old) = λ w later. h.causes a old shown (λ o. apart (once a o)) w (after_that x z w g.later later)
      by a shown apart (inr new) = λ w later. new w (after_that x z w g.later later)

-- A step with one more reply is a later one.
pub replied_later : (x : Step) (j : ℕ) (r : Reply) → IsLate x r → IsLater x (add_reply j r x)
replied_later x j r may = ((going none x).replies x j r (may, λ never. absurd (false_is_true never)) (begins none x)).later where
  none : Reply → Bool
  none q = false

-- The job that it answers is over.
found_last : (rs : List JobReply) (j : ℕ) (r : Reply) → is_some (find (λ (a : JobReply). a.job == j) (rs ++ record { job = j; reply = r } ∷ [])) ≡ true
found_last [] j r = ap (λ b. is_some {T = JobReply} (cond b (Some (record { job = j; reply = r })) None)) (number_itself j)
found_last (a ∷ rs) j r = on (a.job == j) (found_last rs j r) where
  on : (b : Bool) → is_some (find (λ (c : JobReply). c.job == j) (rs ++ record { job = j; reply = r } ∷ [])) ≡ true
      → is_some (cond b (Some a) (find (λ (c : JobReply). c.job == j) (rs ++ record { job = j; reply = r } ∷ []))) ≡ true
  on true rest = refl
  on false rest = rest

pub replied_over : (x : Step) (j : ℕ) (r : Reply) → is_running (seen (add_reply j r x)) j ≡ false
replied_over x j r = by (reply_to x.past j) (find (λ (a : JobReply). a.job == j) (x.effects.replies ++ record { job = j; reply = r } ∷ [])) (found_last x.effects.replies j r) where
  by : (o : Option Replied) (q : Option JobReply) → is_some q ≡ true
      → is_none (elim o as (λ z. Option Replied) [ Some b ↦ Some b | None ↦ option_map (λ (a : JobReply). record { at = length x.past; reply = a.reply }) q ]) ≡ false
  by (Some b) q h = refl
  by None (Some a) h = refl
  by None None h = absurd (false_is_true h)

-- One more reply, with its cause from there on.
pub answer_caused : (these : Input → Reply → Bool) (x : Step) (j : ℕ) (r : Reply) → ((a : JobReply) → IsAtOnce x a → IsAtOnce (add_reply j r x) a) → IsLate x r
    → (these x.input r ≡ true → StaysCaused (add_reply j r x) (record { job = j; reply = r })) → CausedSoFar these x → CausedSoFar these (add_reply j r x)
answer_caused these x j r once may cause h =
    record { before = h.before; facts = h.facts; causes = λ a there shown apart. by a shown apart (contains_last x.effects.replies (record { job = j; reply = r }) a there); jobless = h.jobless } where
      later : IsLater x (add_reply j r x)
      later = replied_later x j r may

      by : (a : JobReply) → these x.input a.reply ≡ true → (IsAtOnce (add_reply j r x) a → ⊥) → Contains x.effects.replies a ⊎ (record { job = j; reply = r } ≡ a) → StaysCaused (add_reply j r x) a
      by a shown apart (inl old) = λ w more. h.causes a old shown (λ o. apart (once a o)) w (after_that x (add_reply j r x) w later more)
      by a shown apart (inr new) = subst (λ b. StaysCaused (add_reply j r x) b) new (cause (subst (λ (b : JobReply). these x.input b.reply ≡ true) (sym new) shown))

-- What an act does for one job, where it answers no other.
pub last_caused : (these : Input → Reply → Bool) (x z : Step) (j : ℕ) (r : Reply) → ((a : JobReply) → IsAtOnce x a → IsAtOnce z a) → (x.input ≡ Wake → ⊥) → IsLater x z → z.input ≡ x.input
    → z.effects.replies ≡ x.effects.replies ++ record { job = j; reply = r } ∷ [] → (these x.input r ≡ true → StaysCaused z (record { job = j; reply = r })) → CausedSoFar these x → CausedSoFar these z
last_caused these x z j r once told later input replies cause h =
    record {
      before = before_later x z later h.before;
      facts = facts_later x z later h.facts;
      causes = λ a there shown apart.
          let here : these x.input a.reply ≡ true = ap (λ i. these i a.reply) (sym input) ∙ shown in
          by a here apart (contains_last x.effects.replies (record { job = j; reply = r }) a (subst (λ rs. Contains rs a) replies there));
      jobless = λ wake. absurd (told (sym input ∙ wake));
    } where
      by : (a : JobReply) → these x.input a.reply ≡ true → (IsAtOnce z a → ⊥) → Contains x.effects.replies a ⊎ (record { job = j; reply = r } ≡ a) → StaysCaused z a
      by a shown apart (inl old) = λ w more. h.causes a old shown (λ o. apart (once a o)) w (after_that x z w later more)
      by a shown apart (inr new) = subst (λ b. StaysCaused z b) new (cause (subst (λ (b : JobReply). these x.input b.reply ≡ true) (sym new) shown))

-- Where the input is no line nothing is answered at once.
pub no_line : (x z : Step) → ((text : List ℕ) → x.input ≡ Line text → ⊥) → (a : JobReply) → IsAtOnce x a → IsAtOnce z a
no_line x z none a o = absurd (none o.text o.line)

pub wake_no_line : (i : Input) (text : List ℕ) → i ≡ Wake → i ≡ Line text → ⊥
wake_no_line i text wake line = cc

pub told_no_line : (i : Input) (n : ℕ) (a : Answer) (text : List ℕ) → i ≡ Told n a → i ≡ Line text → ⊥
told_no_line i n a text told line = cc

-- What was caused before the input stays so as it is seen.
pub seen_caused : (these : Input → Reply → Bool) (x : Step) (i : Input) → ((r : Reply) → these i r ≡ true → these Wake r ≡ true) → (i ≡ Wake → ⊥) → x.input ≡ Wake → CausedSoFar these x → CausedSoFar these (with_input i x)
seen_caused these x i less other wake h =
    record {
      before = h.before;
      facts = h.facts;
      causes = λ a there shown apart w later.
          h.causes a there (ap (λ k. these k a.reply) wake ∙ less a.reply shown) (λ o. wake_no_line x.input o.text wake o.line) w
          (after_that x (with_input i x) w (record { setting = refl; before = refl; reading = refl; carried = λ told. absurd (told wake) }) later);
      jobless = λ is. absurd (other is);
    }

-- ---- a later step is the same but for its effects

-- So it is enough to look at steps that are.
pub by_effects : (x : Step) (a : JobReply) → (x.input ≡ Wake → ⊥) → ((fx : Effects) → IsCarried x (with_effects x fx) → HasCause (with_effects x fx) a) → StaysCaused x a
by_effects x a told cause z later = on (later.carried told) where
  made : Setting → Trace → ℕ → Input → Step
  made st past now i = record { setting = st; past = past; reading = now; input = i; effects = z.effects }

  on : IsCarried x z → HasCause z a
  on carried =
      let same : with_effects x z.effects ≡ z =
      sym (ap (λ st. made st z.past z.reading z.input) later.setting
      ∙ (ap (λ t. made x.setting t z.reading z.input) later.before
      ∙ (ap (λ n. made x.setting x.past n z.input) later.reading ∙ ap (λ i. made x.setting x.past x.reading i) carried.input))) in
      subst (λ w. HasCause w a) same (cause z.effects (subst (λ w. IsCarried x w) (sym same) carried))
