-- The first half of a step: after it the state stands for landings and answers of the step, and for what was submitted before.
use Rattle.sl_ballot_law.proofs.PairLogs.StepTests.{ShownBlock, at_is, at_true, both_true, chosen, given_or, look_shown, not_false, one_of, shown_is}
use Rattle.sl_ballot_law.proofs.PairLogs.StandsGoOn.{flying_on, known_on, landed_on, oks_on, sector_now, sector_on, unshown_on, waited_on, waiting_on, whole_on}
use Rattle.sl_ballot_law.proofs.PairLogs.NewestWrites.{IsLookedAt, IsOked, lands_newest, looked_at, oks_newest}
use Rattle.sl_ballot_law.proofs.PairLogs.Sessions.{left_not_current}
use Rattle.sl_ballot_law.specs.PairLogs.Logs.{By_look, By_ok, IsLog, Log, SectorAt, Shows, current_session, left_by}
use Rattle.sl_ballot_law.specs.PairLogs.Stands.{HasComeBy, IsLeft, Stands}
use Rattle.sl_ballot_law.specs.PairLogs.States.{after_arrival, after_read, fails_at, first_half, is_at, lands_at, oks_at, shown_block}
use Rattle.sl_ballot_law.specs.Pairs.State.{State, Stored, current, is_first}
use Rattle.sl_ballot_law.specs.Pairs.Steps.{after_drop, after_failure, after_landing, after_look, after_ok, after_tearing}
use Rattle.sl_words.proofs.CaseLaws.{none_some, one_value, true_is_false, true_or_false}
use Rattle.sl_words.proofs.WordLaws.{and_true}
use Rattle.std.proofs.Common.{ap, arith, inl, inr, refl, subst, sym, ◌∙◌}
use Rattle.std.specs.Prelude.{Bool, None, Option, Some, false, if◌then◌else◌, not, suc, true, ℕ, ◌&&◌, ◌<◌, ◌≡◌, ◌≤◌, ◌⊎◌}

-- ---- what stays where nothing lands

record Calm (g : Log) (t : ℕ) (w : State) : Type 0 where
  unlanded : (e : ℕ) → g.writes e ≡ true → g.landed e ≡ Some (suc t) → ⊥

-- Nothing lands where the newest doesn't.
calm : (g : Log) → IsLog g → (t : ℕ) (w : State) → Stands g t t w → lands_at g (suc t) w ≡ false → Calm g t w
calm g i t w j never = record {
  unlanded = λ e is landed.
      let it = lands_newest g i t w j e is landed in
      true_is_false (sym (both_true w.flying (is_at (suc t) (g.landed w.last)) it.1 (at_is (suc t) (g.landed w.last) (subst (λ (k : ℕ). g.landed k ≡ Some (suc t)) it.0 landed))) ∙ never);
}

-- What is answered ok is answered so now.
no_ok : (g : Log) → IsLog g → (t : ℕ) (w : State) → Stands g t t w → oks_at g (suc t) w ≡ false → (e : ℕ) → g.writes e ≡ true → g.done e ≡ true → g.answered e ≡ Some (suc t) → ⊥
no_ok g i t w j never e is done at =
    let it : IsOked g w e = oks_newest g i t w j e is done at in
    true_is_false (sym (both_true (w.waits && is_at (suc t) (g.answered w.last) && g.done w.last) w.landed
    (both_true (w.waits && is_at (suc t) (g.answered w.last)) (g.done w.last)
    (both_true w.waits (is_at (suc t) (g.answered w.last)) it.waits
    (at_is (suc t) (g.answered w.last) (subst (λ (k : ℕ). g.answered k ≡ Some (suc t)) it.same at)))
    (subst (λ (k : ℕ). g.done k ≡ true) it.same done)) it.landed) ∙ never)

-- The newest that is waited for is not answered where it is answered neither ok nor failed.
no_answer : (g : Log) → IsLog g → (t : ℕ) (w : State) → Stands g t t w → oks_at g (suc t) w ≡ false → fails_at g (suc t) w ≡ false → w.waits ≡ true
    → g.answered w.last ≡ Some (suc t) → ⊥
no_answer g i t w j never nor waits at = by (true_or_false (g.done w.last))
  where
    by : (g.done w.last ≡ true) ⊎ (g.done w.last ≡ false) → ⊥
    by (inl done) = no_ok g i t w j never w.last (j.waiting waits).is done at
    by (inr failed) =
        true_is_false (sym (both_true (w.waits && is_at (suc t) (g.answered w.last)) (not (g.done w.last))
        (both_true w.waits (is_at (suc t) (g.answered w.last)) waits (at_is (suc t) (g.answered w.last) at)) (not_false (g.done w.last) failed)) ∙ nor)

-- What is in flight is waited for, since its session is the current one.
flying_waits : (g : Log) (t : ℕ) (w : State) → Stands g t t w → w.flying ≡ true → w.waits ≡ true
flying_waits g t w j flying = by (true_or_false w.waits)
  where
    out : HasComeBy (g.answered w.last) t ⊎ IsLeft g t w.last → ⊥
    out (inl come) = (j.flying flying).unanswered come.0 come.1 come.2
    out (inr left) = left_not_current g t w.last left (j.flying flying).mine

    by : (w.waits ≡ true) ⊎ (w.waits ≡ false) → w.waits ≡ true
    by (inl waits) = waits
    by (inr none) = absurd (out (j.unwaiting none (j.flying flying).is))

failed_shows : (g : Log) → IsLog g → (t : ℕ) (w : State) → Stands g t t w → oks_at g (suc t) w ≡ false → w.waits ≡ true → (u : ℕ) → Shows g (current_session g t) (suc t) u → ⊥
failed_shows g i t w j nor waits u (By_look k look turn) = true_is_false (sym waits ∙ (looked_at g i t w j k look).unwaiting)
failed_shows g i t w j nor waits u (By_ok e is mine done at turn) = no_ok g i t w j nor e is done at

-- ---- a landing

-- The sector of the newest write's side, and the other.
landing_side : (g : Log) → IsLog g → (t : ℕ) (w : State) → Stands g t t w → g.writes w.last ≡ true → g.landed w.last ≡ Some (suc t) → (first : Bool) (o x : Option Stored)
    → SectorAt g first t o → x ≡ left_by g w.last → (b : Bool) → is_first (g.turn w.last) ≡ b → (b ≡ first → SectorAt g first (suc t) x) × ((b ≡ first → ⊥) → SectorAt g first (suc t) o)
landing_side g i t w j is landed first o x old left b side = (
  λ same. sector_now g first t w.last x (record { is = is; side = side ∙ same }) landed left,
  λ other. sector_on g first t o old (λ e write there.
      other (sym side ∙ subst (λ (k : ℕ). is_first (g.turn k) ≡ first) (lands_newest g i t w j e write.is there).0 write.side)),
)

front_by : (g : Log) → IsLog g → (t : ℕ) (w : State) → Stands g t t w → g.writes w.last ≡ true → g.landed w.last ≡ Some (suc t) → (x : Option Stored) → x ≡ left_by g w.last
    → (b : Bool) → is_first (g.turn w.last) ≡ b → SectorAt g true (suc t) (if b then x else w.front)
front_by g i t w j is landed x left true side = (landing_side g i t w j is landed true w.front x j.front left true side).0 refl
front_by g i t w j is landed x left false side = (landing_side g i t w j is landed true w.front x j.front left false side).1 (λ e. true_is_false (sym e))

back_by : (g : Log) → IsLog g → (t : ℕ) (w : State) → Stands g t t w → g.writes w.last ≡ true → g.landed w.last ≡ Some (suc t) → (x : Option Stored) → x ≡ left_by g w.last
    → (b : Bool) → is_first (g.turn w.last) ≡ b → SectorAt g false (suc t) (if b then w.back else x)
back_by g i t w j is landed x left true side = (landing_side g i t w j is landed false w.back x j.back left true side).1 (λ e. true_is_false e)
back_by g i t w j is landed x left false side = (landing_side g i t w j is landed false w.back x j.back left false side).0 refl

not_next : (a : ℕ) (t : ℕ) → suc t < a → a ≡ suc t → ⊥
not_next a t h e = omega (arith, h, e)

-- No answer comes with it.
landing_alone : (g : Log) → IsLog g → (t e : ℕ) → g.writes e ≡ true → g.landed e ≡ Some (suc t) → g.answered e ≡ Some (suc t) → ⊥
landing_alone g i t e is landed at = not_next (suc t) t (i.lands_before e (suc t) (suc t) is landed at) refl

landing_shows : (g : Log) → IsLog g → (t : ℕ) (w : State) → Stands g t t w → w.flying ≡ true → g.landed w.last ≡ Some (suc t) → (u : ℕ) → Shows g (current_session g t) (suc t) u → ⊥
landing_shows g i t w j flying landed u (By_look k look turn) = true_is_false (sym flying ∙ (looked_at g i t w j k look).still)
landing_shows g i t w j flying landed u (By_ok e is mine done at turn) =
    landing_alone g i t e is (subst (λ (k : ℕ). g.landed k ≡ Some (suc t)) (sym (oks_newest g i t w j e is done at).same) landed) at

-- The sectors after it, whole or torn, and the mark of a whole one.
arrived : (g : Log) → IsLog g → (t : ℕ) (w : State) → Stands g t t w → w.flying ≡ true → g.landed w.last ≡ Some (suc t) → (v : State)
    → (v ≡ record w { front = v.front; back = v.back; flying = false; landed = v.landed }) → SectorAt g true (suc t) v.front → SectorAt g false (suc t) v.back
    → (g.whole w.last ≡ true → v.landed ≡ true) → Stands g (suc t) t v
arrived g i t w j flying landed v is front back whole =
    let is_write : g.writes w.last ≡ true = (j.flying flying).is in
    let none = landing_shows g i t w j flying landed in
    let unanswered : g.answered w.last ≡ Some (suc t) → ⊥ = λ at. landing_alone g i t w.last is_write landed at in
    subst (λ (z : State). Stands g (suc t) t z) (sym is)
    (record {
      low = j.low;
      is_write = j.is_write;
      newest = j.newest;
      turn = j.turn;
      flying = λ h. absurd (true_is_false (sym h));
      unflying = λ h write. inl (suc t, landed, omega arith);
      waiting = λ h. waiting_on g t t w.last (j.waiting h) unanswered;
      unwaiting = λ h write. waited_on g t w.last (j.unwaiting h write);
      landed = λ write come h. whole h;
      shown = λ h. known_on g (current_session g t) t w.known (j.shown h) none;
      unshown = λ h. unshown_on g (current_session g t) t (j.unshown h) none;
      front = front;
      back = back;
      ok = oks_on g t w.ok j.ok (λ e writes done at.
          absurd (landing_alone g i t e writes (subst (λ (k : ℕ). g.landed k ≡ Some (suc t)) (sym (oks_newest g i t w j e writes done at).same) landed) at));
    })

landing_case : (g : Log) → IsLog g → (t : ℕ) (w : State) → Stands g t t w → lands_at g (suc t) w ≡ true → Stands g (suc t) t (after_arrival g w)
landing_case g i t w j lands =
    let both = and_true w.flying (is_at (suc t) (g.landed w.last)) lands in
    let landed : g.landed w.last ≡ Some (suc t) = at_true (suc t) (g.landed w.last) both.1 in
    let is : g.writes w.last ≡ true = (j.flying both.0).is in
    let side : is_first (g.turn w.last) ≡ is_first w.turn = ap is_first (sym (j.turn is)) in
    one_of (Stands g (suc t) t) (g.whole w.last) (after_landing w) (after_tearing w)
    (λ whole.
    let left : Some (let x : Stored = record { turn = w.turn; write = w.last } in x) ≡ left_by g w.last =
    ap (λ (n : ℕ). Some (let x : Stored = record { turn = n; write = w.last } in x)) (j.turn is)
    ∙ ap (λ (b : Bool). if b then Some (let x : Stored = record { turn = g.turn w.last; write = w.last } in x) else None) (sym whole) in
    arrived g i t w j both.0 landed (after_landing w) refl
    (front_by g i t w j is landed (Some (record { turn = w.turn; write = w.last })) left (is_first w.turn) side)
    (back_by g i t w j is landed (Some (record { turn = w.turn; write = w.last })) left (is_first w.turn) side) (λ h. refl))
    (λ torn.
    let left : None ≡ left_by g w.last = ap (λ (b : Bool). if b then Some (let x : Stored = record { turn = g.turn w.last; write = w.last } in x) else None) (sym torn) in
    arrived g i t w j both.0 landed (after_tearing w) refl (front_by g i t w j is landed None left (is_first w.turn) side)
    (back_by g i t w j is landed None left (is_first w.turn) side) (λ h. absurd (true_is_false (sym h ∙ torn))))

-- ---- an answer to a write

ok_case : (g : Log) → IsLog g → (t : ℕ) (w : State) → Stands g t t w → lands_at g (suc t) w ≡ false → oks_at g (suc t) w ≡ true → Stands g (suc t) t (after_ok w)
ok_case g i t w j never oks =
    let c : Calm g t w = calm g i t w j never in
    let three = and_true (w.waits && is_at (suc t) (g.answered w.last) && g.done w.last) w.landed oks in
    let two = and_true (w.waits && is_at (suc t) (g.answered w.last)) (g.done w.last) three.0 in
    let one = and_true w.waits (is_at (suc t) (g.answered w.last)) two.0 in
    let at : g.answered w.last ≡ Some (suc t) = at_true (suc t) (g.answered w.last) one.1 in
    let waiting = j.waiting one.0 in
    let it : IsOked g w w.last = oks_newest g i t w j w.last waiting.is two.1 at in
    let first = i.next w.last waiting.is in
    record {
      low = j.low;
      is_write = j.is_write;
      newest = j.newest;
      turn = j.turn;
      flying = λ h. absurd (true_is_false (sym h ∙ it.still));
      unflying = λ h write. inr (inl (suc t, at, omega arith));
      waiting = λ h. absurd (true_is_false (sym h));
      unwaiting = λ h write. inl (suc t, at, omega arith);
      landed = λ write come whole. it.landed;
      shown = λ h. record {
        at = suc t;
        by = omega arith;
        shows = By_ok w.last waiting.is waiting.mine two.1 at (sym (j.turn waiting.is));
        newest = λ b u shows late low. omega (arith, late, low);
      };
      unshown = λ h. absurd (j.unshown h first.1.at first.0 (subst (λ (k : ℕ). Shows g k first.1.at first.0) waiting.mine first.1.shows)
          (let a = first.1.by in let b = j.low in omega (arith, a, b)));
      front = sector_on g true t w.front j.front (λ e write landed. c.unlanded e write.is landed);
      back = sector_on g false t w.back j.back (λ e write landed. c.unlanded e write.is landed);
      ok = λ e u is done told low. j.newest e is (let a = i.answers_later e u is told in omega (arith, a, low));
    }

failure_case : (g : Log) → IsLog g → (t : ℕ) (w : State) → Stands g t t w → lands_at g (suc t) w ≡ false → oks_at g (suc t) w ≡ false → fails_at g (suc t) w ≡ true
    → Stands g (suc t) t (after_failure w)
failure_case g i t w j never nor fails =
    let c : Calm g t w = calm g i t w j never in
    let two = and_true (w.waits && is_at (suc t) (g.answered w.last)) (not (g.done w.last)) fails in
    let one = and_true w.waits (is_at (suc t) (g.answered w.last)) two.0 in
    let at : g.answered w.last ≡ Some (suc t) = at_true (suc t) (g.answered w.last) one.1 in
    let none : (u : ℕ) → Shows g (current_session g t) (suc t) u → ⊥ = failed_shows g i t w j nor one.0 in
    record {
      low = j.low;
      is_write = j.is_write;
      newest = j.newest;
      turn = j.turn;
      flying = λ h. absurd (true_is_false (sym h));
      unflying = λ h write. inr (inl (suc t, at, omega arith));
      waiting = λ h. absurd (true_is_false (sym h));
      unwaiting = λ h write. inl (suc t, at, omega arith);
      landed = λ write. whole_on g t w.last w.landed (j.landed write) (λ landed. absurd (c.unlanded w.last write landed));
      shown = λ h. known_on g (current_session g t) t w.known (j.shown h) none;
      unshown = λ h. unshown_on g (current_session g t) t (j.unshown h) none;
      front = sector_on g true t w.front j.front (λ e write landed. c.unlanded e write.is landed);
      back = sector_on g false t w.back j.back (λ e write landed. c.unlanded e write.is landed);
      ok = oks_on g t w.ok j.ok (λ e is done told. absurd (no_ok g i t w j nor e is done told));
    }

-- ---- an answer to a read, and nothing

-- What stays of all but what is shown and in flight.
look_case : (g : Log) → IsLog g → (t : ℕ) (w : State) → Stands g t t w → lands_at g (suc t) w ≡ false → oks_at g (suc t) w ≡ false → (s : Stored)
    → ShownBlock g (suc t) (current_session g t) w s → Stands g (suc t) t (after_look s.turn w)
look_case g i t w j never nor s k =
    let c : Calm g t w = calm g i t w j never in
    let l : IsLookedAt g t w k.look = looked_at g i t w j k.look k.at in
    let same : l.block ≡ s = one_value l.block s (current w) l.stands k.stands in
    record {
      low = j.low;
      is_write = j.is_write;
      newest = j.newest;
      turn = j.turn;
      flying = λ h. absurd (true_is_false (sym h ∙ k.unflying));
      unflying = λ h write. landed_on g t w.last (j.unflying h write);
      waiting = λ h. absurd (true_is_false (sym h ∙ k.unwaiting));
      unwaiting = λ h write. waited_on g t w.last (j.unwaiting h write);
      landed = λ write. whole_on g t w.last w.landed (j.landed write) (λ landed. absurd (c.unlanded w.last write landed));
      shown = λ h. record {
        at = suc t;
        by = omega arith;
        shows = By_look k.look k.at (sym l.turn ∙ ap (λ (x : Stored). x.turn) same);
        newest = λ b u shows late low. omega (arith, late, low);
      };
      unshown = λ h. absurd (true_is_false h);
      front = sector_on g true t w.front j.front (λ e write landed. c.unlanded e write.is landed);
      back = sector_on g false t w.back j.back (λ e write landed. c.unlanded e write.is landed);
      ok = oks_on g t w.ok j.ok (λ e is done told. absurd (no_ok g i t w j nor e is done told));
    }

unlooked : (g : Log) → IsLog g → (t : ℕ) (w : State) → Stands g t t w → oks_at g (suc t) w ≡ false → shown_block g (suc t) (current_session g t) w ≡ None → (u : ℕ)
    → Shows g (current_session g t) (suc t) u → ⊥
unlooked g i t w j nor none u (By_look k look turn) =
    let l : IsLookedAt g t w k = looked_at g i t w j k look in
    none_some l.block (sym none ∙ look_shown g (suc t) (current_session g t) w k look l.unwaiting l.still ∙ l.stands)
unlooked g i t w j nor none u (By_ok e is mine done at turn) = no_ok g i t w j nor e is done at

-- Nothing but that what is in flight may be dropped.
quiet_case : (g : Log) → IsLog g → (t : ℕ) (w : State) → Stands g t t w → lands_at g (suc t) w ≡ false → oks_at g (suc t) w ≡ false → fails_at g (suc t) w ≡ false
    → shown_block g (suc t) (current_session g t) w ≡ None → (v : State) → v ≡ record w { flying = v.flying } → (v.flying ≡ true → w.flying ≡ true)
    → (v.flying ≡ false → g.writes w.last ≡ true → HasComeBy (g.landed w.last) (suc t) ⊎ (HasComeBy (g.answered w.last) (suc t) ⊎ IsLeft g (suc t) w.last))
    → Stands g (suc t) t v
quiet_case g i t w j never nor neither none v is flies still =
    let c : Calm g t w = calm g i t w j never in
    let unshown = unlooked g i t w j nor none in
    subst (λ (z : State). Stands g (suc t) t z) (sym is)
    (record {
      low = j.low;
      is_write = j.is_write;
      newest = j.newest;
      turn = j.turn;
      flying = λ h. flying_on g t t w.last (j.flying (flies h)) (λ landed. c.unlanded w.last (j.flying (flies h)).is landed)
          (λ at. no_answer g i t w j nor neither (flying_waits g t w j (flies h)) at);
      unflying = λ h write. still h write;
      waiting = λ h. waiting_on g t t w.last (j.waiting h) (λ at. no_answer g i t w j nor neither h at);
      unwaiting = λ h write. waited_on g t w.last (j.unwaiting h write);
      landed = λ write. whole_on g t w.last w.landed (j.landed write) (λ landed. absurd (c.unlanded w.last write landed));
      shown = λ h. known_on g (current_session g t) t w.known (j.shown h) unshown;
      unshown = λ h. unshown_on g (current_session g t) t (j.unshown h) unshown;
      front = sector_on g true t w.front j.front (λ e write landed. c.unlanded e write.is landed);
      back = sector_on g false t w.back j.back (λ e write landed. c.unlanded e write.is landed);
      ok = oks_on g t w.ok j.ok (λ e writes done told. absurd (no_ok g i t w j nor e writes done told));
    })

left_now : (a b t : ℕ) → a ≤ b → b ≤ t → a < suc t
left_now a b t h k = omega (arith, h, k)

read_case : (g : Log) → IsLog g → (t : ℕ) (w : State) → Stands g t t w → lands_at g (suc t) w ≡ false → oks_at g (suc t) w ≡ false → fails_at g (suc t) w ≡ false
    → Stands g (suc t) t (after_read g (suc t) (current_session g t) w)
read_case g i t w j never nor neither =
    given_or (Stands g (suc t) t) (shown_block g (suc t) (current_session g t) w) (λ s. after_look s.turn w) (if g.joins (suc t) && w.flying then after_drop w else w)
    (λ s shown. look_case g i t w j never nor s (shown_is g (suc t) (current_session g t) w s shown))
    (λ none. one_of (Stands g (suc t) t) (g.joins (suc t) && w.flying) (after_drop w) w
    (λ drops. quiet_case g i t w j never nor neither none (after_drop w) refl (λ h. absurd (true_is_false (sym h)))
    (λ still write. inr (inr (record {
      join = suc t;
      joins = (and_true (g.joins (suc t)) w.flying drops).0;
      later = left_now (g.session w.last) w.last t (i.after_join w.last write) j.low;
      by = omega arith;
    }))))
    (λ stays. quiet_case g i t w j never nor neither none w refl (λ h. h) (λ still write. landed_on g t w.last (j.unflying still write))))

pub first_stands : (g : Log) → IsLog g → (t : ℕ) (w : State) → Stands g t t w → Stands g (suc t) t (first_half g (suc t) (current_session g t) w)
first_stands g i t w j =
    chosen (Stands g (suc t) t) (lands_at g (suc t) w) (oks_at g (suc t) w) (fails_at g (suc t) w) (after_arrival g w) (after_ok w) (after_failure w)
    (after_read g (suc t) (current_session g t) w) (λ lands. landing_case g i t w j lands) (λ never oks. ok_case g i t w j never oks)
    (λ never nor fails. failure_case g i t w j never nor fails) (λ never nor neither. read_case g i t w j never nor neither)

-- ---- where a session joins, nothing is in flight after the first half

abbrev IsStill : State → Type 0
IsStill v = v.flying ≡ false

still_arrival : (g : Log) (w : State) → IsStill (after_arrival g w)
still_arrival g w = one_of IsStill (g.whole w.last) (after_landing w) (after_tearing w) (λ h. refl) (λ h. refl)

still_read : (g : Log) (n session : ℕ) (w : State) → g.joins n ≡ true → IsStill (after_read g n session w)
still_read g n session w joins =
    given_or IsStill (shown_block g n session w) (λ s. after_look s.turn w) (if g.joins n && w.flying then after_drop w else w)
    (λ s shown. let k : ShownBlock g n session w s = shown_is g n session w s shown in k.unflying)
    (λ none. one_of IsStill (g.joins n && w.flying) (after_drop w) w (λ drops. refl) (λ stays. unflown w.flying stays joins))
  where
    unflown : (b : Bool) → (g.joins n && b) ≡ false → g.joins n ≡ true → b ≡ false
    unflown true h joins = absurd (true_is_false (sym (both_true (g.joins n) true joins refl) ∙ h))
    unflown false h joins = refl

pub first_still : (g : Log) → IsLog g → (t : ℕ) (w : State) → Stands g t t w → g.joins (suc t) ≡ true → IsStill (first_half g (suc t) (current_session g t) w)
first_still g i t w j joins =
    chosen IsStill (lands_at g (suc t) w) (oks_at g (suc t) w) (fails_at g (suc t) w) (after_arrival g w) (after_ok w) (after_failure w)
    (after_read g (suc t) (current_session g t) w) (λ lands. still_arrival g w)
    (λ never oks. ok_still oks) (λ never nor fails. refl) (λ never nor neither. still_read g (suc t) (current_session g t) w joins)
  where
    ok_still : oks_at g (suc t) w ≡ true → w.flying ≡ false
    ok_still oks =
        let three = and_true (w.waits && is_at (suc t) (g.answered w.last) && g.done w.last) w.landed oks in
        let two = and_true (w.waits && is_at (suc t) (g.answered w.last)) (g.done w.last) three.0 in
        let one = and_true w.waits (is_at (suc t) (g.answered w.last)) two.0 in
        (oks_newest g i t w j w.last (j.waiting one.0).is two.1 (at_true (suc t) (g.answered w.last) one.1)).still
