-- A starter's starts, one after another.
use Rattle.sl_book.proofs.Fronts.{prefix_get, prefix_length, prefix_self, prefix_trans}
use Rattle.sl_book.proofs.Givens.{entries_prefix}
use Rattle.sl_book.proofs.SeatLaws.{mine_none, mine_seen}
use Rattle.sl_book.specs.Logs.{entries}
use Rattle.sl_book.specs.Seats.{HasSeen}
use Rattle.sl_cell.proofs.SeatLaws.{gave_before, mine_on}
use Rattle.sl_cell.specs.Histories.{Signed}
use Rattle.sl_cell.specs.Seats.{SeatState}
use Rattle.sl_cell.specs.Told.{Gave, IsUnasked}
use Rattle.sl_live.proofs.CarriedLaws.{let_more, starts_more}
use Rattle.sl_outside.proofs.ActLaws.{grows_none, grows_on}
use Rattle.sl_live.proofs.WorkLaws.{next_within, take_next, take_same}
use Rattle.sl_live.specs.CarriedOut.{AreStarted, IsActed, IsLet, IsUntold, TookStart, starts_of}
use Rattle.sl_live.specs.Turns.{Starts}
use Rattle.sl_live.specs.declared.children.Awaited.{Awaited}
use Rattle.sl_live_machine.proofs.SeatLaws.{GaveTurn}
use Rattle.sl_live_machine.specs.ServedActs.{StartsOn}
use Rattle.sl_outside.specs.Acts.{Grows}
use Rattle.sl_outside.specs.declared.act.Act.TheVariants.{Started}
use Rattle.sl_outside.specs.declared.act.Act.{Act}
use Rattle.sl_trace.specs.Traces.{Setting}
use Rattle.sl_trace.specs.declared.effects.Effects.{Effects}
use Rattle.sl_trace.specs.declared.effects.Entry.{Entry}
use Rattle.sl_trace.specs.declared.effects.Start.{Start}
use Rattle.sl_trace.specs.declared.input.Input.TheVariants.{Spawned}
use Rattle.std.proofs.Common.{append_assoc, append-nil, ap, arith, inl, inr, refl, subst, sym, ◌∙◌}
use Rattle.std.specs.Prelude.{Bool, List, None, Option, Some, false, if◌then◌else◌, is_some, length, slice_get, take, true, [], ℕ, ◌++◌, ◌+◌, ◌||◌, ◌∷◌, ◌≡◌, ◌≤◌, ◌⊎◌}
use mathlib.Core.List.{IsPrefix}

either : {A B C D : Type 0} → (A → C) → (B → D) → A ⊎ B → C ⊎ D
either f g (inl a) = inl (f a)
either f g (inr b) = inr (g b)

-- ---- more of the history was seen

untold_more : (st : Setting) (h h' : List Signed) (process : ℕ) (ok : Bool) → IsPrefix h h' → IsUntold st h process ok → IsUntold st h' process ok
untold_more st h h' process ok p so = record { past = so.past; before = prefix_trans so.past h h' so.before p; unasked = so.unasked }

let_seen : (h h' : List Signed) (killed killed' : Bool) (process : ℕ) → IsPrefix h h' → (killed ≡ true → killed' ≡ true) → IsLet (entries h) killed process
    → IsLet (entries h') killed' process
let_seen h h' killed killed' process p later so =
    let es = entries_prefix h h' p in
    subst (λ l. IsLet l killed' process) es.1 (let_more (entries h) es.0 killed killed' process later so)

acted_more : (h h' : List Signed) (killed killed' : Bool) (s : Start) (came : Bool) (acts : List Act) → IsPrefix h h' → (killed ≡ true → killed' ≡ true)
    → IsActed h killed s came acts → IsActed h' killed' s came acts
acted_more h h' killed killed' s came acts p later (inl made) = inl made
acted_more h h' killed killed' s came acts p later (inr none) = inr (none.0, none.1, let_seen h h' killed killed' s.process p later none.2)

pub starts_prefix : (h h' : List Signed) → IsPrefix h h' → IsPrefix (starts_of (entries h)) (starts_of (entries h'))
starts_prefix h h' p =
    let es = entries_prefix h h' p in
    (starts_of es.0, sym (starts_more (entries h) es.0) ∙ ap starts_of es.1)

module _ (st : Setting) where
  pub started_more : (h h' : List Signed) (killed killed' : Bool) (ss : List Start) (es : List Entry) (acts : List Act) → IsPrefix h h' → (killed ≡ true → killed' ≡ true)
      → AreStarted st h killed ss es acts → AreStarted st h' killed' ss es acts
  started_more h h' killed killed' [] [] acts p later so = so
  started_more h h' killed killed' [] (e ∷ es) acts p later so = absurd so
  started_more h h' killed killed' (s ∷ ss) [] acts p later so = record {
    came = so.came;
    ok = so.ok;
    mine = so.mine;
    rest = so.rest;
    acts_are = so.acts_are;
    acted = acted_more h h' killed killed' s so.came so.mine p later so.acted;
    told = so.told;
    follows = (untold_more st h h' s.process so.ok p so.follows.0, started_more h h' killed killed' ss [] so.rest p later so.follows.1);
  }
  started_more h h' killed killed' (s ∷ ss) (e ∷ es) acts p later so = record {
    came = so.came;
    ok = so.ok;
    mine = so.mine;
    rest = so.rest;
    acts_are = so.acts_are;
    acted = acted_more h h' killed killed' s so.came so.mine p later so.acted;
    told = so.told;
    follows = either (λ x. (x.0, started_more h h' killed killed' ss es so.rest p later x.1))
        (λ x. (untold_more st h h' s.process so.ok p x.0, started_more h h' killed killed' ss (e ∷ es) so.rest p later x.1)) so.follows;
  }

  -- ---- one start more

  -- what it came to is told
  start_told : (h : List Signed) (killed : Bool) (ss : List Start) (es : List Entry) (acts : List Act) (s : Start) (e : Entry) (came ok : Bool) (new : List Act)
      → e.input ≡ Spawned s.process ok → (ok ≡ true → came ≡ true) → IsActed h killed s came new → AreStarted st h killed ss es acts
      → AreStarted st h killed (ss ++ s ∷ []) (es ++ e ∷ []) (acts ++ new)
  start_told h killed [] [] acts s e came ok new is told acted so = record {
    came = came;
    ok = ok;
    mine = new;
    rest = [];
    acts_are = ap (λ x. x ++ new) so ∙ sym (append-nil new);
    acted = acted;
    told = told;
    follows = inl (is, refl);
  }
  start_told h killed [] (x ∷ es) acts s e came ok new is told acted so = absurd so
  start_told h killed (b ∷ ss) [] acts s e came ok new is told acted so = record {
    came = so.came;
    ok = so.ok;
    mine = so.mine;
    rest = so.rest ++ new;
    acts_are = ap (λ x. x ++ new) so.acts_are ∙ append_assoc so.mine so.rest new;
    acted = so.acted;
    told = so.told;
    follows = inr (so.follows.0, start_told h killed ss [] so.rest s e came ok new is told acted so.follows.1);
  }
  start_told h killed (b ∷ ss) (x ∷ es) acts s e came ok new is told acted so = record {
    came = so.came;
    ok = so.ok;
    mine = so.mine;
    rest = so.rest ++ new;
    acts_are = ap (λ x. x ++ new) so.acts_are ∙ append_assoc so.mine so.rest new;
    acted = so.acted;
    told = so.told;
    follows = either (λ y. (y.0, start_told h killed ss es so.rest s e came ok new is told acted y.1))
        (λ y. (y.0, start_told h killed ss (x ∷ es) so.rest s e came ok new is told acted y.1)) so.follows;
  }

  -- .. or answers nothing that is open
  start_untold : (h : List Signed) (killed : Bool) (ss : List Start) (es : List Entry) (acts : List Act) (s : Start) (came ok : Bool) (new : List Act)
      → IsUntold st h s.process ok → (ok ≡ true → came ≡ true) → IsActed h killed s came new → AreStarted st h killed ss es acts
      → AreStarted st h killed (ss ++ s ∷ []) es (acts ++ new)
  start_untold h killed [] [] acts s came ok new is told acted so = record {
    came = came;
    ok = ok;
    mine = new;
    rest = [];
    acts_are = ap (λ x. x ++ new) so ∙ sym (append-nil new);
    acted = acted;
    told = told;
    follows = (is, refl);
  }
  start_untold h killed [] (x ∷ es) acts s came ok new is told acted so = absurd so
  start_untold h killed (b ∷ ss) [] acts s came ok new is told acted so = record {
    came = so.came;
    ok = so.ok;
    mine = so.mine;
    rest = so.rest ++ new;
    acts_are = ap (λ x. x ++ new) so.acts_are ∙ append_assoc so.mine so.rest new;
    acted = so.acted;
    told = so.told;
    follows = (so.follows.0, start_untold h killed ss [] so.rest s came ok new is told acted so.follows.1);
  }
  start_untold h killed (b ∷ ss) (x ∷ es) acts s came ok new is told acted so = record {
    came = so.came;
    ok = so.ok;
    mine = so.mine;
    rest = so.rest ++ new;
    acts_are = ap (λ x. x ++ new) so.acts_are ∙ append_assoc so.mine so.rest new;
    acted = so.acted;
    told = so.told;
    follows = either (λ y. (y.0, start_untold h killed ss es so.rest s came ok new is told acted y.1))
        (λ y. (y.0, start_untold h killed ss (x ∷ es) so.rest s came ok new is told acted y.1)) so.follows;
  }

  -- ---- the starter

  -- nothing yet
  pub starts_begun : (killed : Bool) (before : Option (List Act)) (s : SeatState) → s.count ≡ 0 → s.taken ≡ 0 → StartsOn st killed before before s
  starts_begun killed before s none first = record {
    given = [];
    mine = mine_none s none;
    acts = [];
    grows = grows_none before before refl;
    most = omega (arith, first);
    made = subst (λ n. AreStarted st s.front killed (take n (starts_of (entries s.front))) [] []) (sym first) refl;
  }

  -- as many starts of more of the history
  pub starts_seen : (h h' : List Signed) (killed killed' : Bool) (taken : ℕ) (given : List Entry) (acts : List Act) → IsPrefix h h' → (killed ≡ true → killed' ≡ true)
      → taken ≤ length (starts_of (entries h)) → AreStarted st h killed (take taken (starts_of (entries h))) given acts
      → AreStarted st h' killed' (take taken (starts_of (entries h'))) given acts
  starts_seen h h' killed killed' taken given acts p later most so =
      subst (λ l. AreStarted st h' killed' l given acts) (sym (take_same taken (starts_of (entries h)) (starts_of (entries h')) most (starts_prefix h h' p)))
      (started_more h h' killed killed' (take taken (starts_of (entries h))) given acts p later so)

  pub starts_most : (h h' : List Signed) (taken : ℕ) → IsPrefix h h' → taken ≤ length (starts_of (entries h)) → taken ≤ length (starts_of (entries h'))
  starts_most h h' taken p most = let n = prefix_length (starts_of (entries h)) (starts_of (entries h')) (starts_prefix h h' p) in omega (arith, n, most)

  -- all starts that were taken, where these were made with the next one
  starts_all : (killed : Bool) (s : SeatState) (n : ℕ) (x : Start) (given : List Entry) (acts : List Act) → slice_get (starts_of (entries s.front)) n ≡ Some x → s.taken ≡ n + 1
      → AreStarted st s.front killed (take n (starts_of (entries s.front)) ++ x ∷ []) given acts
      → AreStarted st s.front killed (take s.taken (starts_of (entries s.front))) given acts
  starts_all killed s n x given acts there next so =
      subst (λ k. AreStarted st s.front killed (take k (starts_of (entries s.front))) given acts) (sym next)
      (subst (λ l. AreStarted st s.front killed l given acts) (sym (take_next n x (starts_of (entries s.front)) there)) so)

  most_all : (s : SeatState) (n : ℕ) (x : Start) → slice_get (starts_of (entries s.front)) n ≡ Some x → s.taken ≡ n + 1 → s.taken ≤ length (starts_of (entries s.front))
  most_all s n x there next = let within = next_within n x (starts_of (entries s.front)) there in omega (arith, within, next)

  -- what a start was is so of what the seat has seen now
  record IsDealt (killed' : Bool) (s s' : SeatState) (w : Awaited) (came : Bool) (before after : Option (List Act)) : Type 0 where
    new : List Act
    acted : IsActed s'.front killed' w.start came new
    grows : Grows before after new
    behind : IsPrefix s.front s'.front
    there : slice_get (starts_of (entries s'.front)) s.taken ≡ Some w.start
    next : s'.taken ≡ s.taken + 1

  starts_gave : (killed killed' : Bool) (start before after : Option (List Act)) (s m s' : SeatState) (w : Awaited) (came ok : Bool) (now : ℕ) (fx : Effects)
      → (killed ≡ true → killed' ≡ true) → HasSeen s m → IsDealt killed' s s' w came before after → (ok ≡ true → came ≡ true) → Gave m s' now (Spawned w.start.process ok) fx
      → StartsOn st killed start before s → StartsOn st killed' start after s'
  starts_gave killed killed' start before after s m s' w came ok now fx later seen dealt told gave so =
      let e : Entry = gave.entry.entry in record {
        given = so.given ++ e ∷ [];
        mine = mine_on m s' now (Spawned w.start.process ok) fx so.given gave (mine_seen s m so.given seen so.mine);
        acts = so.acts ++ dealt.new;
        grows = grows_on start before after so.acts dealt.new so.grows dealt.grows;
        most = most_all s' s.taken w.start dealt.there dealt.next;
        made = starts_all killed' s' s.taken w.start (so.given ++ e ∷ []) (so.acts ++ dealt.new) dealt.there dealt.next
            (start_told s'.front killed' (take s.taken (starts_of (entries s'.front))) so.given so.acts w.start e came ok dealt.new gave.is.same told dealt.acted
            (starts_seen s.front s'.front killed killed' s.taken so.given so.acts dealt.behind later so.most so.made));
      }

  starts_passed : (killed killed' : Bool) (start before after : Option (List Act)) (s m s' : SeatState) (w : Awaited) (came ok : Bool)
      → (killed ≡ true → killed' ≡ true) → HasSeen s m → IsDealt killed' s s' w came before after → (ok ≡ true → came ≡ true) → IsUnasked st m s' (Spawned w.start.process ok)
      → StartsOn st killed start before s → StartsOn st killed' start after s'
  starts_passed killed killed' start before after s m s' w came ok later seen dealt told passed so =
      let is : IsUntold st s'.front w.start.process ok = record { past = s'.front; before = prefix_self s'.front; unasked = passed.unasked } in record {
        given = so.given;
        mine = mine_seen m s' so.given passed.seen (mine_seen s m so.given seen so.mine);
        acts = so.acts ++ dealt.new;
        grows = grows_on start before after so.acts dealt.new so.grows dealt.grows;
        most = most_all s' s.taken w.start dealt.there dealt.next;
        made = starts_all killed' s' s.taken w.start so.given (so.acts ++ dealt.new) dealt.there dealt.next
            (start_untold s'.front killed' (take s.taken (starts_of (entries s'.front))) so.given so.acts w.start came ok dealt.new is told dealt.acted
            (starts_seen s.front s'.front killed killed' s.taken so.given so.acts dealt.behind later so.most so.made));
      }

  -- what a start came to, where it was made or need not be
  made_so : {S C : Type 0} (told : S → Option (List Act)) (faults : S → ℕ) (killed' seen_killed : Bool) (w : Awaited) (x y : S) (child : Option C) (m s' : SeatState)
      → IsPrefix m.front s'.front → (seen_killed ≡ true → killed' ≡ true) → (w.signalled ≡ true → IsLet (entries m.front) seen_killed w.start.process) → (b : Bool) → b ≡ w.signalled
      → Starts told faults w x y child → (new : List Act) × IsActed s'.front killed' w.start (is_some child) new × Grows (told x) (told y) new
  made_so told faults killed' seen_killed w x y child m s' p later let_ true is so = (
    [],
    inr (refl, ap is_some (so.some (sym is)), let_seen m.front s'.front seen_killed killed' w.start.process p later (let_ (sym is))),
    subst (λ (b : Bool). Grows (told x) (told y) (if b then [] else Started w.start.process w.start.program (is_some child) ∷ [])) (sym is) so.grows,
  )
  made_so told faults killed' seen_killed w x y child m s' p later let_ false is so = (
    Started w.start.process w.start.program (is_some child) ∷ [],
    inl refl,
    subst (λ (b : Bool). Grows (told x) (told y) (if b then [] else Started w.start.process w.start.program (is_some child) ∷ [])) (sym is) so.grows,
  )

  dealt_with : {S C : Type 0} (told : S → Option (List Act)) (faults : S → ℕ) (killed' seen_killed : Bool) (w : Awaited) (x y : S) (child : Option C) (s m s' : SeatState)
      → TookStart s m w seen_killed → IsPrefix m.front s'.front → s'.taken ≡ m.taken → (seen_killed ≡ true → killed' ≡ true) → Starts told faults w x y child
      → IsDealt killed' s s' w (is_some child) (told x) (told y)
  dealt_with told faults killed' seen_killed w x y child s m s' took p same later so =
      let made = made_so told faults killed' seen_killed w x y child m s' p later took.let_ w.signalled refl so in record {
        new = made.0;
        acted = made.1;
        grows = made.2;
        behind = prefix_trans s.front m.front s'.front took.seen.before p;
        there = prefix_get (starts_of (entries m.front)) (starts_of (entries s'.front)) s.taken w.start (starts_prefix m.front s'.front p) took.there;
        next = same ∙ took.taken;
      }

  -- a start that is taken is made, and what it came to told
  pub starts_on : {S C : Type 0} (told : S → Option (List Act)) (faults : S → ℕ) (killed killed' seen_killed : Bool) (start : Option (List Act)) (w : Awaited) (x y : S)
      (child : Option C) (ok : Bool) (s m s' : SeatState) → (killed ≡ true → killed' ≡ true) → (seen_killed ≡ true → killed' ≡ true) → TookStart s m w seen_killed
      → Starts told faults w x y child → (ok ≡ true → is_some child ≡ true) → GaveTurn st (Spawned w.start.process ok) m s' → StartsOn st killed start (told x) s
      → StartsOn st killed' start (told y) s'
  starts_on told faults killed killed' seen_killed start w x y child ok s m s' later saw took starts came (inl gave) so =
      starts_gave killed killed' start (told x) (told y) s m s' w (is_some child) ok gave.0 gave.1 later took.seen
      (dealt_with told faults killed' seen_killed w x y child s m s' took (gave_before m s' gave.0 (Spawned w.start.process ok) gave.1 gave.2) gave.2.taken saw starts) came gave.2 so
  starts_on told faults killed killed' seen_killed start w x y child ok s m s' later saw took starts came (inr passed) so =
      starts_passed killed killed' start (told x) (told y) s m s' w (is_some child) ok later took.seen
      (dealt_with told faults killed' seen_killed w x y child s m s' took passed.seen.before passed.taken saw starts) came passed so

-- ---- what came of a start

pub or_first : (k d k' : Bool) → k' ≡ (k || d) → k ≡ true → k' ≡ true
or_first true d k' is so = is
or_first false d k' is so = absurd cc

pub or_second : (k d k' : Bool) → k' ≡ (k || d) → d ≡ true → k' ≡ true
or_second true d k' is so = is
or_second false d k' is so = is ∙ so

-- a child is told only where there is one
pub runs_so : {C : Type 0} (ok : Bool) (child : Option C) → (child ≡ None → ok ≡ false) → ok ≡ true → is_some child ≡ true
runs_so ok (Some x) none is = refl
runs_so true None none is = sym (none refl)
runs_so false None none is = absurd cc
