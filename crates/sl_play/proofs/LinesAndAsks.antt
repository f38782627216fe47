-- Lines and asks: what is left behind them is left before.
use Rattle.sl_world_state.specs.Daemons.{program_of}
use Rattle.sl_world_state.specs.SaneWorlds.{WorldStands}
use Rattle.sl_play.proofs.EndsFinish.{asks_lead_back, ends_finish, events_lead_back, leading_is_chained}
use Rattle.sl_play.specs.RunEndings.{LeadsBack}
use Rattle.sl_play.specs.PlayIsOwed.{EachStood}
use Rattle.sl_play.specs.declared.step_counts.PlayError.{PlayError}
use Rattle.sl_play.specs.Plays.{AsksLeft, Begins, GoesOn, Happened, HasAsked, HasHappened, HaveAsked, IsAsking, IsBarred, IsPlaying, PlayState, PlaysOn, StopsAt, TakesLines}
use Rattle.sl_report.specs.Languages.{Language, is_skipped, whole_language}
use Rattle.sl_report.specs.ReadLines.{event_in}
use Rattle.sl_report.specs.Reports.{Counts, event_lines, no_counts}
use Rattle.sl_report.specs.Schedules.{EventLine, NumberedLine, event_line, event_or_syntax, line_refusal}
use Rattle.sl_run.specs.Inputs.{asking}
use Rattle.sl_run.specs.EventChanges.{happens}
use Rattle.sl_run.specs.Refusals.{refusal_of}
use Rattle.sl_run.specs.Headers.{IsHeader}
use Rattle.sl_run.specs.Worlds.{World, world_with}
use Rattle.sl_run.specs.declared.event.Event.TheVariants.{GiveAsk}
use Rattle.sl_run.specs.declared.event.Event.{Event}
use Rattle.sl_run.specs.declared.event.Refusal.{Refusal}
use Rattle.sl_run.specs.declared.header.Header.{Header}
use Rattle.sl_run_law.proofs.WorldsGoOn.{event_goes}
use Rattle.sl_sound.proofs.Reports.EventsAskFew.{asks_end, events_ask_few}
use Rattle.sl_sound.proofs.Reports.OneReport.{begins_fair, begins_unasked}
use Rattle.sl_sound.specs.Reports.EventsAskFew.{AsksOn}
use Rattle.sl_text.specs.Forms.{Form, as_bytes}
use Rattle.sl_trace.specs.Traces.{Setting, Trace}
use Rattle.sl_trace.specs.declared.command.Command.{Command}
use Rattle.sl_trace.specs.declared.effects.Effects.{Effects}
use Rattle.sl_world_law.proofs.FirstStanding.{each_stood}
use Rattle.sl_world_law.proofs.TellingIsKept.{asks_are_kept}
use Rattle.sl_world_law.specs.ToldEvents.{asking_in}
use Rattle.std.specs.Option.{option_to_list}
use Rattle.std.proofs.Common.{Bool, List, None, Option, Some, [], ap, arith, false, refl, subst, suc, sym, true, zero, ℕ, ◌++◌, ◌+◌, ◌-◌, ◌∙◌, ◌∷◌, ◌≡◌, ◌≤◌}
use Rattle.std.specs.Prelude.{Err, IfOk, Ok, Result, is_none}

-- ---- events

-- The header stays.
header_stays : {D : Type 0} (commands : Header → List (Form Command)) (stands : D → Setting → Trace → Type 0) (w : World) (p : PlayState D) (e : Event) (fx : Effects) (out : List ℕ) (n : PlayState D)
    (now : List ℕ) → WorldStands commands stands p.kept p.hosts w → Happened commands stands w p e fx out n now → n.kept.header ≡ p.kept.header
header_stays commands stands w p e fx out n now s h =
    sym h.comes.stays.tells.header ∙ (event_goes w e (fx ∷ [])).header ∙ s.tells.header

-- An event that has happened leads back, where its counts and its text are those of the play.
event_back : {D : Type 0} (commands : Header → List (Form Command)) (stands : D → Setting → Trace → Type 0) (w : World) (p : PlayState D) (e : Event) (fx : Effects) (out : List ℕ) (n : PlayState D)
    (now : List ℕ) → PlaysOn commands stands p w → Happened commands stands w p e fx out n now → (number : ℕ) (lang : Language) (ls : List EventLine)
    → LeadsBack (EachStood stands) lang w p.counts ((number, Ok e) ∷ ls) out (happens w e (fx ∷ [])) n.counts ls now
event_back commands stands w p e fx out n now s h number lang ls =
    subst (λ b. LeadsBack (EachStood stands) lang w p.counts ((number, Ok e) ∷ ls) out (happens w e (fx ∷ [])) n.counts ls b) (sym h.text)
    (subst (λ k. LeadsBack (EachStood stands) lang w p.counts ((number, Ok e) ∷ ls) out (happens w e (fx ∷ [])) k ls (out ++ as_bytes (event_lines w e (fx ∷ [])))) (sym h.counts)
    (events_lead_back (EachStood stands) lang w p.counts number e (fx ∷ []) ls out s.unasked
    (record { may = h.comes.may; steps = h.comes.steps; holds = each_stood commands stands p.kept p.hosts w s.stands_for })))

ask_back : {D : Type 0} (commands : Header → List (Form Command)) (stands : D → Setting → Trace → Type 0) (w : World) (p : PlayState D) (m : ℕ) (fx : Effects) (out : List ℕ) (n : PlayState D)
    (now : List ℕ) → WorldStands commands stands p.kept p.hosts w → asking w ≡ Some m → Happened commands stands w p (GiveAsk m) fx out n now → (lang : Language) (ls : List EventLine)
    → LeadsBack (EachStood stands) lang w p.counts ls out (happens w (GiveAsk m) (fx ∷ [])) n.counts ls now
ask_back commands stands w p m fx out n now s asks h lang ls =
    subst (λ b. LeadsBack (EachStood stands) lang w p.counts ls out (happens w (GiveAsk m) (fx ∷ [])) n.counts ls b) (sym h.text)
    (subst (λ k. LeadsBack (EachStood stands) lang w p.counts ls out (happens w (GiveAsk m) (fx ∷ [])) k ls (out ++ as_bytes (event_lines w (GiveAsk m) (fx ∷ [])))) (sym h.counts)
    (asks_lead_back (EachStood stands) lang w p.counts m (fx ∷ []) ls out asks
    (record { may = h.comes.may; steps = h.comes.steps; holds = each_stood commands stands p.kept p.hosts w s })))

-- Nothing in between.
stays_there : {D : Type 0} (stands : D → Setting → Trace → Type 0) (lang : Language) (w : World) (k : Counts) (ls : List EventLine) (out : List ℕ) → LeadsBack (EachStood stands) lang w k ls out w k ls out
stays_there stands lang w k ls out = record { finishes = λ total end f. f; breaks = λ total f. f }

-- ---- the beginning

pub begins : {D : Type 0} (commands : Header → List (Form Command)) (stands : D → Setting → Trace → Type 0) (h : Header) (p : PlayState D) → IsHeader h
    → WorldStands commands stands p.kept p.hosts (world_with (program_of commands) h) → p.counts ≡ no_counts → Begins commands stands h p
begins commands stands h p good s counts =
    record {
      plays = record { stands_for = s; fair = begins_fair (program_of commands) h good; unasked = begins_unasked (program_of commands) h };
      counts = counts;
      header = sym s.tells.header;
    }

-- ---- asks

-- What an event leaves to be asked.
pub asks_left : {D : Type 0} (commands : Header → List (Form Command)) (stands : D → Setting → Trace → Type 0) (p n : PlayState D) (w : World) (e : Event) (fx : Effects) (out now : List ℕ)
    → PlaysOn commands stands p w → Happened commands stands w p e fx out n now → (m : ℕ) × AsksLeft commands stands n (happens w e (fx ∷ [])) m 10
asks_left commands stands p n w e fx out now s h =
    let few = events_ask_few w e fx s.fair s.unasked h.comes.may in (few.0, record { stands_for = h.comes.stays; asks = few.1 })

pub is_asking : {D : Type 0} (commands : Header → List (Form Command)) (stands : D → Setting → Trace → Type 0) (p n : PlayState D) (e : Event) (out now : List ℕ)
    → IsPlaying commands stands p → HasHappened commands stands p e out n now → IsAsking commands stands n 10
is_asking commands stands p n e out now s h =
    let left = asks_left commands stands p n s.world e h.effects out now s.plays (h.in_each s.world s.plays.stands_for) in
    record { world = happens s.world e (h.effects ∷ []); machine = left.0; asks = left.1 }

pub none_asked : {D : Type 0} (commands : Header → List (Form Command)) (stands : D → Setting → Trace → Type 0) (p : PlayState D) (out : List ℕ) → HaveAsked commands stands p out 10 p out
none_asked commands stands p out w m a = record { world = w; asks = a; header = refl; leads = λ lang ls. stays_there stands lang w p.counts ls out }

-- Which machine asks is a matter of what is kept.
asks_there : {D : Type 0} (commands : Header → List (Form Command)) (stands : D → Setting → Trace → Type 0) (p : PlayState D) (w : World) → WorldStands commands stands p.kept p.hosts w
    → (o : Option ℕ) → o ≡ asking_in p.kept → asking w ≡ o
asks_there commands stands p w s o is = asks_are_kept p.kept w s.tells ∙ sym is

-- So where one is due, some are left, ..
pub some_left : {D : Type 0} (commands : Header → List (Form Command)) (stands : D → Setting → Trace → Type 0) (p : PlayState D) (w : World) (m left k : ℕ)
    → AsksLeft commands stands p w m left → Some k ≡ asking_in p.kept → 1 ≤ left
some_left commands stands p w m zero k a is = absurd (never (asking w) (asks_end.none w m a.asks) (asks_there commands stands p w a.stands_for (Some k) is))
  where
    never : (o : Option ℕ) → o ≡ None → o ≡ Some k → ⊥
    never None none some = absurd cc
    never (Some j) none some = absurd cc
some_left commands stands p w m (suc left) k a is = omega arith

-- .. and nothing bars it.
pub unbarred : {D : Type 0} (commands : Header → List (Form Command)) (stands : D → Setting → Trace → Type 0) (p : PlayState D) (w : World) (m left k : ℕ) (why : Refusal)
    → AsksLeft commands stands p w m left → Some k ≡ asking_in p.kept → refusal_of w (GiveAsk k) ≡ Some why → ⊥
unbarred commands stands p w m left k why a is barred =
    let given = asks_end.given w m left k a.asks (asks_there commands stands p w a.stands_for (Some k) is) in never (refusal_of w (GiveAsk k)) given.1 barred
  where
    never : (o : Option Refusal) → is_none o ≡ true → o ≡ Some why → ⊥
    never None none some = absurd cc
    never (Some r) none some = absurd cc

-- One ask more.
pub asks_more : {D : Type 0} (commands : Header → List (Form Command)) (stands : D → Setting → Trace → Type 0) (w : World) (p q n : PlayState D) (out then now : List ℕ) (m left k : ℕ)
    → HasAsked commands stands w p out m left q then → Some k ≡ asking_in q.kept → HasHappened commands stands q (GiveAsk k) then n now
    → HasAsked commands stands w p out m (left - 1) n now
asks_more commands stands w p q n out then now m zero k a is h = absurd (omega (arith, some_left commands stands q a.world m 0 k a.asks is))
asks_more commands stands w p q n out then now m (suc left) k a is h =
    let asks = asks_there commands stands q a.world a.asks.stands_for (Some k) is in
    let given = asks_end.given a.world m (suc left) k a.asks.asks asks in
    let x = h.in_each a.world a.asks.stands_for in
    let v : World = happens a.world (GiveAsk k) (h.effects ∷ []) in
    let on : AsksOn v m left =
    subst (λ j. AsksOn (happens a.world (GiveAsk j) (h.effects ∷ [])) m left) (sym given.0) (asks_end.fewer a.world m left h.effects a.asks.asks (asks ∙ ap (λ j. Some j) given.0)) in
    record {
      world = v;
      asks = record { stands_for = x.comes.stays; asks = subst (AsksOn v m) (less left) on };
      header = header_stays commands stands a.world q (GiveAsk k) h.effects then n now a.asks.stands_for x ∙ a.header;
      leads = λ lang ls. leading_is_chained (EachStood stands) lang w a.world v p.counts q.counts n.counts ls ls ls out then now (a.leads lang ls)
          (ask_back commands stands a.world q k h.effects then n now a.asks.stands_for asks x lang ls);
    }
  where
    less : (k : ℕ) → k ≡ suc k - 1
    less k = omega arith

-- None is left.
pub asks_done : {D : Type 0} (commands : Header → List (Form Command)) (stands : D → Setting → Trace → Type 0) (w : World) (p n : PlayState D) (out now : List ℕ) (m left : ℕ)
    → HasAsked commands stands w p out m left n now → None ≡ asking_in n.kept → GoesOn commands stands w p [] out n now
asks_done commands stands w p n out now m left a is =
    record {
      world = a.world;
      plays = record { stands_for = a.asks.stands_for; fair = a.asks.asks.fair; unasked = asks_there commands stands n a.world a.asks.stands_for None is };
      header = a.header;
      leads = a.leads;
    }

-- ---- a line

-- Its event with the asks behind it.
pub event_taken : {D : Type 0} (commands : Header → List (Form Command)) (stands : D → Setting → Trace → Type 0) (w : World) (p q n : PlayState D) (e : Event) (number : ℕ) (out then now : List ℕ)
    → PlaysOn commands stands p w → HasHappened commands stands p e out q then
    → ((v : World) (m : ℕ) → AsksLeft commands stands q v m 10 → GoesOn commands stands v q [] then n now) → GoesOn commands stands w p ((number, Ok e) ∷ []) out n now
event_taken commands stands w p q n e number out then now s h asks =
    let x = h.in_each w s.stands_for in
    let v : World = happens w e (h.effects ∷ []) in
    let left = asks_left commands stands p q w e h.effects out then s x in
    let a = asks v left.0 left.1 in
    record {
      world = a.world;
      plays = a.plays;
      header = a.header ∙ header_stays commands stands w p e h.effects out q then s.stands_for x;
      leads = λ lang ls. leading_is_chained (EachStood stands) lang w v a.world p.counts q.counts n.counts ((number, Ok e) ∷ ls) ls ls out then now
          (event_back commands stands w p e h.effects out q then s x number lang ls) (a.leads lang ls);
    }

-- Its event may not happen.
pub event_stops : {D : Type 0} (commands : Header → List (Form Command)) (stands : D → Setting → Trace → Type 0) (w : World) (p n : PlayState D) (e : Event) (number : ℕ) (out now : List ℕ) (why : Refusal)
    → PlaysOn commands stands p w → IsBarred commands stands p e out n now why → StopsAt stands w p ((number, Ok e) ∷ []) number out n now why
event_stops commands stands w p n e number out now why s b =
    record {
      same = b.same;
      text = b.text;
      finishes = λ lang ls. (ends_finish (EachStood stands)).refused lang w p.counts number e why ls out (each_stood commands stands p.kept p.hosts w s.stands_for) s.unasked (b.barred w s.stands_for);
    }

-- It can't be read.
misread_stops : {D : Type 0} (commands : Header → List (Form Command)) (stands : D → Setting → Trace → Type 0) (w : World) (p : PlayState D) (number : ℕ) (out : List ℕ) (why : Refusal)
    → PlaysOn commands stands p w → StopsAt stands w p ((number, Err why) ∷ []) number out p out why
misread_stops commands stands w p number out why s =
    record {
      same = record { kept = refl; hosts = refl; counts = refl };
      text = refl;
      finishes = λ lang ls. (ends_finish (EachStood stands)).misread lang w p.counts number why ls out (each_stood commands stands p.kept p.hosts w s.stands_for) s.unasked;
    }

pub misread_so : {D : Type 0} (commands : Header → List (Form Command)) (stands : D → Setting → Trace → Type 0) (w : World) (p : PlayState D) (number : ℕ) (out : List ℕ)
    (read : Result Event Refusal) (why : Refusal) → read ≡ Err why → PlaysOn commands stands p w → StopsAt stands w p ((number, read) ∷ []) number out p out why
misread_so commands stands w p number out read why is s =
    subst (λ r. StopsAt stands w p ((number, r) ∷ []) number out p out why) (sym is) (misread_stops commands stands w p number out why s)

-- It says nothing.
pub nothing_taken : {D : Type 0} (commands : Header → List (Form Command)) (stands : D → Setting → Trace → Type 0) (w : World) (p : PlayState D) (out : List ℕ)
    → PlaysOn commands stands p w → GoesOn commands stands w p [] out p out
nothing_taken commands stands w p out s = record { world = w; plays = s; header = refl; leads = λ lang ls. stays_there stands lang w p.counts ls out }

-- ---- what was read

pub none_left : (o : Option Refusal) → ((why : Refusal) → o ≡ Some why → ⊥) → o ≡ None
none_left None never = refl
none_left (Some why) never = absurd (never why refl)

-- A line's event has the line's number.
number_is : (o : Option Refusal) (skips : Bool) (n : ℕ) (read : Result Event Refusal) (x : EventLine)
    → elim o [ Some r ↦ Some (n, Err r) | None ↦ elim skips [ true ↦ None | false ↦ Some (n, read) ] ] ≡ Some x → x.0 ≡ n
number_is (Some r) skips n read x is = cc
number_is None true n read x is = absurd cc
number_is None false n read x is = cc

line_taken : {D : Type 0} (commands : Header → List (Form Command)) (stands : D → Setting → Trace → Type 0) (w : World) (p n : PlayState D) (h : Header) (l : NumberedLine) (number : ℕ)
    (read : Result Event Refusal) (out now : List ℕ) (why : Option Refusal) → event_line whole_language h l ≡ Some (number, read)
    → TakesLines commands stands w p ((number, read) ∷ []) number out n now why → TakesLines commands stands w p (option_to_list (event_line whole_language h l)) l.number out n now why
line_taken commands stands w p n h l number read out now why is t =
    let same : number ≡ l.number = number_is (line_refusal l) (is_skipped l.text) l.number (event_or_syntax (event_in whole_language h.machines h.geometry.sector l.text)) (number, read) is in
    subst (λ o. TakesLines commands stands w p (option_to_list o) l.number out n now why) (sym is)
    (subst (λ k. TakesLines commands stands w p ((number, read) ∷ []) k out n now why) same t)

pub line_answered : {D : Type 0} (commands : Header → List (Form Command)) (stands : D → Setting → Trace → Type 0) (p n : PlayState D) (h : Header) (l : NumberedLine) (number : ℕ)
    (read : Result Event Refusal) (out now : List ℕ) (r : Result (Option Refusal) PlayError) → event_line whole_language h l ≡ Some (number, read)
    → IfOk r (λ why. (w : World) → PlaysOn commands stands p w → (k : ℕ) → TakesLines commands stands w p ((k, read) ∷ []) k out n now why)
    → IfOk r (λ why. (w : World) → PlaysOn commands stands p w → TakesLines commands stands w p (option_to_list (event_line whole_language h l)) l.number out n now why)
line_answered commands stands p n h l number read out now (Ok why) is t = λ w s. line_taken commands stands w p n h l number read out now why is (t w s number)
line_answered commands stands p n h l number read out now (Err e) is t = tt

-- A line that says nothing.
pub line_skipped : {D : Type 0} (commands : Header → List (Form Command)) (stands : D → Setting → Trace → Type 0) (p : PlayState D) (h : Header) (l : NumberedLine) (out : List ℕ)
    → event_line whole_language h l ≡ None → (w : World) → PlaysOn commands stands p w
    → TakesLines commands stands w p (option_to_list (event_line whole_language h l)) l.number out p out None
line_skipped commands stands p h l out none w s = subst (λ o. GoesOn commands stands w p (option_to_list o) out p out) (sym none) (nothing_taken commands stands w p out s)
