-- Every call of a session with those that stood before it: the laws of its entry speak of the same calls, answered less.
use Rattle.sl_run_law.specs.Course.CallStamps.{Pairwise}
use Rattle.sl_id_safety.proofs.State.PairedLists.{EveryTail}
use Rattle.sl_run.specs.LawForms.{cut_at}
use Rattle.sl_run_law.proofs.Sessions.TraceGrowth.{mine_marked, mine_next, other_next, to_all}
use Rattle.sl_run_law.proofs.Sessions.CallsAreMade.{SameCall, kept_by, same_answered}
use Rattle.sl_trace.specs.Sessions.{calls_of}
use Rattle.sl_trace.specs.declared.session.Session.{Session}
use Rattle.sl_trace.specs.Traces.{Answered, Submitted, Trace, answer_of, answered_in, mark}
use Rattle.sl_trace.specs.declared.effects.Call.{Call}
use Rattle.sl_trace.specs.declared.effects.Entry.{Entry}
use Rattle.sl_trace.specs.declared.input.Answer.{Answer}
use Rattle.sl_trace.specs.declared.input.Input.TheVariants.{Answer as Told, Exit, Line, Number, Spawned, Wake}
use Rattle.sl_trace.specs.declared.input.Input.{Input}
use Rattle.std.proofs.Common.{ap, refl, subst, sym, ◌∙◌}
use Rattle.std.specs.Prelude.{Bool, List, Some, [], false, length, map, slice_get, suc, true, ℕ, ◌++◌, ◌==◌, ◌∷◌, ◌≡◌}

-- A call, and the same call earlier: an answer that it had then it has still.
pub record IsLater (m n : Submitted) : Type 0 where
  pub same : SameCall m n
  pub stays : (a : Answered) → n.answer ≡ Some a → m ≡ n

pub later_still : (m : Submitted) → IsLater m m
later_still m = record { same = record { at = refl; reading = refl; call = refl }; stays = λ a is. refl }

pub later_again : (m n r : Submitted) → IsLater m n → IsLater n r → IsLater m r
later_again m n r a b =
    record {
      same = record { at = a.same.at ∙ b.same.at; reading = a.same.reading ∙ b.same.reading; call = a.same.call ∙ b.same.call };
      stays = λ w is. let one = b.stays w is in a.stays w (ap (λ (x : Submitted). x.answer) one ∙ is) ∙ one;
    }

abbrev pub AreLater : List Submitted → List Submitted → Type 0
AreLater ms ns = Pairwise IsLater ms ns

pub all_still : (ms : List Submitted) → AreLater ms ms
all_still [] = tt
all_still (m ∷ ms) = (later_still m, all_still ms)

pub all_again : (ms ns rs : List Submitted) → AreLater ms ns → AreLater ns rs → AreLater ms rs
all_again [] [] [] h k = tt
all_again [] [] (r ∷ rs) h k = absurd k
all_again [] (n ∷ ns) rs h k = absurd h
all_again (m ∷ ms) [] rs h k = absurd h
all_again (m ∷ ms) (n ∷ ns) [] h k = absurd k
all_again (m ∷ ms) (n ∷ ns) (r ∷ rs) h k = (later_again m n r h.0 k.0, all_again ms ns rs h.1 k.1)

-- ---- an answer

told_later : (es : Trace) (e : Entry) (n : ℕ) (a : Answer) (m : Submitted) → IsLater (answered_in es e n a m) m
told_later es e n a m =
    record { same = same_answered es e n a m; stays = λ w is. kept_by m w (answer_of es e a m.call) (m.call.number == n) is }

told_all : (es : Trace) (e : Entry) (n : ℕ) (a : Answer) (ms : List Submitted) → AreLater (map (answered_in es e n a) ms) ms
told_all es e n a [] = tt
told_all es e n a (m ∷ ms) = (told_later es e n a m, told_all es e n a ms)

pub marked_later : (es : Trace) (e : Entry) (i : Input) (ms : List Submitted) → AreLater (mark es e i ms) ms
marked_later es e (Told n a) ms = told_all es e n a ms
marked_later es e (Line text) ms = all_still ms
marked_later es e (Number text) ms = all_still ms
marked_later es e (Exit p) ms = all_still ms
marked_later es e (Spawned p ok) ms = all_still ms
marked_later es e Wake ms = all_still ms

-- ---- where a call was made

-- A call of the session was made by this entry, when these of the session's calls had been.
pub record IsMadeAfter (es : Trace) (s : Session) (m : Submitted) (older : List Submitted) : Type 0 where
  pub later : Trace
  pub entry : Entry
  pub past : Trace
  pub whole : es ≡ later ++ entry ∷ past
  pub index : ℕ
  pub call : slice_get entry.effects.calls index ≡ Some m.call
  pub mine : (m.call.session == s.number) ≡ true
  pub place : m.at ≡ length past
  pub reading : m.reading ≡ entry.reading
  pub prior : AreLater older (calls_of (cut_at index entry ∷ past) s)

-- The trace where it was made.
abbrev pub front_at : {es : Trace} {s : Session} {m : Submitted} {older : List Submitted} → IsMadeAfter es s m older → Trace
front_at d = cut_at d.index d.entry ∷ d.past

abbrev pub AreMade : Trace → Session → List Submitted → Type 0
AreMade es s ms = EveryTail (IsMadeAfter es s) ms

made_later : (es : Trace) (e : Entry) (s : Session) (m n : Submitted) (ms ns : List Submitted) → IsLater m n → AreLater ms ns → IsMadeAfter es s n ns → IsMadeAfter (e ∷ es) s m ms
made_later es e s m n ms ns one all d =
    record {
      later = e ∷ d.later;
      entry = d.entry;
      past = d.past;
      whole = ap (λ t. e ∷ t) d.whole;
      index = d.index;
      call = d.call ∙ ap (λ x. Some x) (sym one.same.call);
      mine = ap (λ (c : Call). c.session == s.number) one.same.call ∙ d.mine;
      place = one.same.at ∙ d.place;
      reading = one.same.reading ∙ d.reading;
      prior = all_again ms ns (calls_of (cut_at d.index d.entry ∷ d.past) s) all d.prior;
    }

all_made_later : (es : Trace) (e : Entry) (s : Session) (ms ns : List Submitted) → AreLater ms ns → AreMade es s ns → AreMade (e ∷ es) s ms
all_made_later es e s [] ns h d = tt
all_made_later es e s (m ∷ ms) [] h d = absurd h
all_made_later es e s (m ∷ ms) (n ∷ ns) h d = (made_later es e s m n ms ns h.0 h.1 d.0, all_made_later es e s ms ns h.1 d.1)

made_next : (e : Entry) (past : Trace) (s : Session) (k : ℕ) (c : Call) → slice_get e.effects.calls k ≡ Some c → (b : Bool) → (c.session == s.number) ≡ b
    → AreMade (e ∷ past) s (calls_of (cut_at k e ∷ past) s) → AreMade (e ∷ past) s (calls_of (cut_at (suc k) e ∷ past) s)
made_next e past s k c at false other old = subst (λ ms. AreMade (e ∷ past) s ms) (sym (other_next past e s k c at other)) old
made_next e past s k c at true mine old =
    subst (λ ms. AreMade (e ∷ past) s ms) (sym (mine_next past e s k c at mine)) (
      record {
        later = [];
        entry = e;
        past = past;
        whole = refl;
        index = k;
        call = at;
        mine = mine;
        place = refl;
        reading = refl;
        prior = all_still (calls_of (cut_at k e ∷ past) s);
      },
      old,
    )

-- So each was.
pub all_made : (es : Trace) (s : Session) → AreMade es s (calls_of es s)
all_made [] s = tt
all_made (e ∷ past) s =
    to_all (λ t. AreMade (e ∷ past) s (calls_of t s)) e past
    (subst (λ ms. AreMade (e ∷ past) s ms) (sym (mine_marked past e s))
    (all_made_later past e s (mark past (cut_at 0 e) e.input (calls_of past s)) (calls_of past s) (marked_later past (cut_at 0 e) e.input (calls_of past s)) (all_made past s)))
    (λ k c at old. made_next e past s k c at (c.session == s.number) refl old)
