-- The second half of a step: a session joins, or the current one submits a block.
use Rattle.sl_ballot_law.proofs.PairLogs.StepTests.{both_true, not_false, one_of}
use Rattle.sl_ballot_law.proofs.PairLogs.Sessions.{current_joins, current_low, joined_before, joined_now, writers_low}
use Rattle.sl_ballot_law.specs.PairLogs.Logs.{By_look, By_ok, IsKnown, IsLog, Log, Look, Shows, current_session}
use Rattle.sl_ballot_law.specs.PairLogs.Stands.{IsWaiting, Stands}
use Rattle.sl_ballot_law.specs.PairLogs.States.{second_half}
use Rattle.sl_ballot_law.specs.Pairs.State.{State}
use Rattle.sl_ballot_law.specs.Pairs.Steps.{after_beginning, after_submission}
use Rattle.sl_words.proofs.CaseLaws.{is_false, one_value, true_is_false, true_or_false}
use Rattle.sl_words.proofs.OrderLaws.{less_or_same}
use Rattle.std.proofs.Common.{ap, arith, inl, inr, refl, subst, sym, ◌∙◌}
use Rattle.std.proofs.lemmas.Bool.{cases_lt, lt-ltb}
use Rattle.std.specs.Prelude.{Bool, Some, false, if◌then◌else◌, nat_lt, not, suc, true, ℕ, ◌&&◌, ◌+◌, ◌<◌, ◌≡◌, ◌≤◌, ◌⊎◌}

-- ---- what is shown last is one turn

-- An answer to a read of a session is none to its write.
look_or_ok : (g : Log) → IsLog g → (session at : ℕ) (k : Look) (e : ℕ) → g.looks session at ≡ Some k → g.writes e ≡ true → g.session e ≡ session
    → g.answered e ≡ Some at → ⊥
look_or_ok g i session at k e look is mine told = by (i.quiet session at k look e is mine)
  where
    by : ((a : ℕ) × (g.answered e ≡ Some a) × (a ≤ k.begun)) ⊎ (at ≤ e) → ⊥
    by (inl old) =
        let same : old.0 ≡ at = one_value old.0 at (g.answered e) old.1 told in
        let s = i.sampled session at k look in
        omega (arith, old.2, same, s.0, s.1)
    by (inr new) = let later : e < at = i.answers_later e at is told in omega (arith, new, later)

-- Of two writes of a session the second is answered later.
answers_apart : (g : Log) → IsLog g → (e n at : ℕ) → g.writes e ≡ true → g.writes n ≡ true → g.session e ≡ g.session n → g.answered e ≡ Some at → g.answered n ≡ Some at → e < n → ⊥
answers_apart g i e n at is other same told told' less = by (i.follows e n is other less)
  where
    by : ((g.session e ≡ g.session n) × ((a : ℕ) × (g.answered e ≡ Some a) × (a ≤ n))) ⊎ (g.session e < g.session n) → ⊥
    by (inl first) =
        let one : first.1.0 ≡ at = one_value first.1.0 at (g.answered e) first.1.1 told in
        let later : n < at = i.answers_later n at other told' in
        omega (arith, first.1.2, one, later)
    by (inr less) = omega (arith, less, same)

one_answer : (g : Log) → IsLog g → (e n at : ℕ) → g.writes e ≡ true → g.writes n ≡ true → g.session e ≡ g.session n → g.answered e ≡ Some at → g.answered n ≡ Some at → e ≡ n
one_answer g i e n at is other same told told' = by (cases_lt e n)
  where
    by : (e < n) ⊎ (n ≤ e) → e ≡ n
    by (inl less) = absurd (answers_apart g i e n at is other same told told' less)
    by (inr more) = elim (less_or_same n e more) [
      | inl less ↦ absurd (answers_apart g i n e at other is (sym same) told' told less)
      | inr equal ↦ sym equal
    ]

one_shown : (g : Log) → IsLog g → (session at u v : ℕ) → Shows g session at u → Shows g session at v → u ≡ v
one_shown g i session at u v (By_look k look turn) (By_look l also turn') =
    sym turn ∙ ap (λ (x : Look). x.turn) (one_value k l (g.looks session at) look also) ∙ turn'
one_shown g i session at u v (By_look k look turn) (By_ok e is mine done told turn') = absurd (look_or_ok g i session at k e look is mine told)
one_shown g i session at u v (By_ok e is mine done told turn') (By_look k look turn) = absurd (look_or_ok g i session at k e look is mine told)
one_shown g i session at u v (By_ok e is mine done told turn) (By_ok n other mine' done' told' turn') =
    sym turn ∙ ap g.turn (one_answer g i e n at is other (mine ∙ sym mine') told told') ∙ turn'

pub one_known : (g : Log) → IsLog g → (session t u v : ℕ) → IsKnown g session t u → IsKnown g session t v → u ≡ v
one_known g i session t u v x y = by (cases_lt x.at y.at)
  where
    by : (x.at < y.at) ⊎ (y.at ≤ x.at) → u ≡ v
    by (inl less) = absurd (x.newest y.at v y.shows less y.by)
    by (inr more) = elim (less_or_same y.at x.at more) [
      | inl less ↦ absurd (y.newest x.at u x.shows less x.by)
      | inr same ↦ one_shown g i session x.at u v x.shows (subst (λ (k : ℕ). Shows g session k v) same y.shows)
    ]

-- A session is shown something after it joined.
pub shows_later : (g : Log) → IsLog g → (session at u : ℕ) → Shows g session at u → session < at
shows_later g i session at u (By_look k look turn) =
    let s = i.sampled session at k look in
    let a = i.looks_after session at k look in
    omega (arith, s.0, s.1, a)
shows_later g i session at u (By_ok e is mine done told turn) =
    let a = i.after_join e is in
    let b = i.answers_later e at is told in
    omega (arith, a, b, mine)

-- ---- a session joins

below_or_now : (e t : ℕ) → e ≤ suc t → (e ≤ t) ⊎ (e ≡ suc t)
below_or_now e t h = elim (less_or_same e (suc t) h) [ inl less ↦ inl (omega (arith, less)) | inr same ↦ inr same ]

-- Nothing is submitted at that step.
joins_alone : (g : Log) → IsLog g → (n : ℕ) → g.joins n ≡ true → g.writes n ≡ true → ⊥
joins_alone g i n joins is = by (less_or_same (g.session n) n (i.after_join n is))
  where
    by : (g.session n < n) ⊎ (g.session n ≡ n) → ⊥
    by (inl less) = let s : n < n = i.silent n n is joins less in omega (arith, s)
    by (inr same) =
        let k = i.next n is in
        let later : g.session n < k.1.at = shows_later g i (g.session n) k.1.at k.0 k.1.shows in
        let low = k.1.by in
        omega (arith, later, low, same)

no_longer : (a b c : ℕ) → a < b → b ≤ c → a ≡ c → ⊥
no_longer a b c h k e = omega (arith, h, k, e)

join_case : (g : Log) → IsLog g → (t : ℕ) (w : State) → Stands g (suc t) t w → g.joins (suc t) ≡ true → w.flying ≡ false → Stands g (suc t) (suc t) (after_beginning w)
join_case g i t w j joins still =
    let now : current_session g (suc t) ≡ suc t = joined_now g t joins in
    record {
      low = let l = j.low in omega (arith, l);
      is_write = j.is_write;
      newest = λ e is low. elim (below_or_now e t low) [
        | inl early ↦ j.newest e is early
        | inr same ↦ absurd (joins_alone g i (suc t) joins (subst (λ (k : ℕ). g.writes k ≡ true) same is))
      ];
      turn = j.turn;
      flying = λ h. absurd (true_is_false (sym h ∙ still));
      unflying = λ h write. j.unflying still write;
      waiting = λ h. absurd (true_is_false (sym h));
      unwaiting = λ h write. inr (record {
        join = suc t;
        joins = joins;
        later = let a = i.after_join w.last write in let l = j.low in omega (arith, a, l);
        by = omega arith;
      });
      landed = j.landed;
      shown = λ h. absurd (true_is_false (sym h));
      unshown = λ h b turn shows low. no_longer (current_session g (suc t)) b (suc t) (shows_later g i (current_session g (suc t)) b turn shows) low now;
      front = j.front;
      back = j.back;
      ok = j.ok;
    }

-- ---- a block is submitted

-- By the session that joined last.
writer_current : (g : Log) → IsLog g → (n : ℕ) → g.writes n ≡ true → g.session n ≡ current_session g n
writer_current g i n is = by (less_or_same (g.session n) (current_session g n) (writers_low g i n n is (omega arith)))
  where
    out : g.session n < current_session g n → (current_session g n ≡ 0) ⊎ (g.joins (current_session g n) ≡ true) → ⊥
    out less (inl none) = omega (arith, less, none)
    out less (inr joins) =
        let before : n < current_session g n = i.silent n (current_session g n) is joins less in
        let low : current_session g n ≤ n = current_low g n in
        omega (arith, before, low)

    by : (g.session n < current_session g n) ⊎ (g.session n ≡ current_session g n) → g.session n ≡ current_session g n
    by (inr same) = same
    by (inl less) = absurd (out less (current_joins g n))

-- It was shown a turn, and waits for nothing.
record MaySubmit (g : Log) (n : ℕ) (w : State) : Type 0 where
  shown : w.shown ≡ true
  unwaiting : w.waits ≡ false
  above : w.last < n
  turn : g.turn n ≡ w.known + 1

may_submit : (g : Log) → IsLog g → (t : ℕ) (w : State) → Stands g (suc t) t w → g.joins (suc t) ≡ false → g.writes (suc t) ≡ true → MaySubmit g (suc t) w
may_submit g i t w j unjoined is =
    let mine : g.session (suc t) ≡ current_session g t = writer_current g i (suc t) is ∙ joined_before g t unjoined in
    let k = i.next (suc t) is in
    let known : IsKnown g (current_session g t) (suc t) k.0 = subst (λ (s : ℕ). IsKnown g s (suc t) k.0) mine k.1 in
    let shown : w.shown ≡ true = shown_by (true_or_false w.shown) known in
    record {
      shown = shown;
      unwaiting = is_false w.waits (λ waits. unwaited (j.waiting waits) mine);
      above = let l = j.low in omega (arith, l);
      turn = k.2 ∙ ap (λ (n : ℕ). n + 1) (one_known g i (current_session g t) (suc t) k.0 w.known known (j.shown shown));
    }
  where
    shown_by : (w.shown ≡ true) ⊎ (w.shown ≡ false) → {u : ℕ} → IsKnown g (current_session g t) (suc t) u → w.shown ≡ true
    shown_by (inl h) {u} known = h
    shown_by (inr h) {u} known = absurd (j.unshown h known.at u known.shows known.by)

    unwaited : IsWaiting g (suc t) t w.last → g.session (suc t) ≡ current_session g t → ⊥
    unwaited f mine = by (i.follows w.last (suc t) f.is is (let l = j.low in omega (arith, l)))
      where
        by : ((g.session w.last ≡ g.session (suc t)) × ((a : ℕ) × (g.answered w.last ≡ Some a) × (a ≤ suc t))) ⊎ (g.session w.last < g.session (suc t)) → ⊥
        by (inl same) = f.unanswered same.1.0 same.1.1 same.1.2
        by (inr less) = let m = f.mine in omega (arith, less, m, mine)

submit_case : (g : Log) → IsLog g → (t : ℕ) (w : State) → Stands g (suc t) t w → g.joins (suc t) ≡ false → g.writes (suc t) ≡ true → MaySubmit g (suc t) w
    → Stands g (suc t) (suc t) (after_submission (suc t) w)
submit_case g i t w j unjoined is m =
    let mine : g.session (suc t) ≡ current_session g (suc t) = writer_current g i (suc t) is in
    let same : current_session g (suc t) ≡ current_session g t = joined_before g t unjoined in
    let unanswered : (u : ℕ) → g.answered (suc t) ≡ Some u → u ≤ suc t → ⊥ = λ u at low. (let l : suc t < u = i.answers_later (suc t) u is at in omega (arith, l, low)) in
    let unlanded : (u : ℕ) → g.landed (suc t) ≡ Some u → u ≤ suc t → ⊥ = λ u at low. (let l : suc t < u = i.lands_later (suc t) u is at in omega (arith, l, low)) in
    record {
      low = omega arith;
      is_write = inr is;
      newest = λ e writes low. low;
      turn = λ h. sym m.turn;
      flying = λ h. record { is = is; mine = mine; unlanded = unlanded; unanswered = unanswered };
      unflying = λ h. absurd (true_is_false h);
      waiting = λ h. record { is = is; mine = mine; unanswered = unanswered };
      unwaiting = λ h. absurd (true_is_false h);
      landed = λ write come. absurd (unlanded come.0 come.1 come.2);
      shown = λ h. subst (λ (s : ℕ). IsKnown g s (suc t) w.known) (sym same) (j.shown h);
      unshown = λ h b turn shows low. j.unshown h b turn (subst (λ (s : ℕ). Shows g s b turn) same shows) low;
      front = j.front;
      back = j.back;
      ok = j.ok;
    }

-- ---- nothing

nothing_case : (g : Log) → (t : ℕ) (w : State) → Stands g (suc t) t w → g.joins (suc t) ≡ false → (g.writes (suc t) ≡ true → ⊥) → Stands g (suc t) (suc t) w
nothing_case g t w j unjoined none =
    let same : current_session g (suc t) ≡ current_session g t = joined_before g t unjoined in
    record {
      low = let l = j.low in omega (arith, l);
      is_write = j.is_write;
      newest = λ e is low. elim (below_or_now e t low) [
        | inl early ↦ j.newest e is early
        | inr now ↦ absurd (none (subst (λ (k : ℕ). g.writes k ≡ true) now is))
      ];
      turn = j.turn;
      flying = λ h. let f = j.flying h in record { is = f.is; mine = f.mine ∙ sym same; unlanded = f.unlanded; unanswered = f.unanswered };
      unflying = j.unflying;
      waiting = λ h. let f = j.waiting h in record { is = f.is; mine = f.mine ∙ sym same; unanswered = f.unanswered };
      unwaiting = j.unwaiting;
      landed = j.landed;
      shown = λ h. subst (λ (s : ℕ). IsKnown g s (suc t) w.known) (sym same) (j.shown h);
      unshown = λ h b turn shows low. j.unshown h b turn (subst (λ (s : ℕ). Shows g s b turn) same shows) low;
      front = j.front;
      back = j.back;
      ok = j.ok;
    }

write_case : (g : Log) → IsLog g → (t : ℕ) (w : State) → Stands g (suc t) t w → g.joins (suc t) ≡ false
    → Stands g (suc t) (suc t) (if g.writes (suc t) && w.shown && not w.waits && nat_lt w.last (suc t) then after_submission (suc t) w else w)
write_case g i t w j unjoined =
    one_of (Stands g (suc t) (suc t)) (g.writes (suc t) && w.shown && not w.waits && nat_lt w.last (suc t)) (after_submission (suc t) w) w
    (λ h. submit_case g i t w j unjoined (written h) (may_submit g i t w j unjoined (written h)))
    (λ h. nothing_case g t w j unjoined (λ is. true_is_false (sym (all_of (may_submit g i t w j unjoined is) is) ∙ h)))
  where
    written : (g.writes (suc t) && w.shown && not w.waits && nat_lt w.last (suc t)) ≡ true → g.writes (suc t) ≡ true
    written h = by (g.writes (suc t)) h
      where
        by : (b : Bool) → (b && w.shown && not w.waits && nat_lt w.last (suc t)) ≡ true → b ≡ true
        by true h = refl
        by false h = h

    all_of : MaySubmit g (suc t) w → g.writes (suc t) ≡ true → (g.writes (suc t) && w.shown && not w.waits && nat_lt w.last (suc t)) ≡ true
    all_of m is =
        both_true (g.writes (suc t) && w.shown && not w.waits) (nat_lt w.last (suc t))
        (both_true (g.writes (suc t) && w.shown) (not w.waits) (both_true (g.writes (suc t)) w.shown is m.shown) (not_false w.waits m.unwaiting)) (lt-ltb w.last (suc t) m.above)

pub second_stands : (g : Log) → IsLog g → (t : ℕ) (w : State) → Stands g (suc t) t w → (g.joins (suc t) ≡ true → w.flying ≡ false) → Stands g (suc t) (suc t) (second_half g (suc t) w)
second_stands g i t w j still =
    one_of (Stands g (suc t) (suc t)) (g.joins (suc t)) (if w.flying then w else after_beginning w)
    (if g.writes (suc t) && w.shown && not w.waits && nat_lt w.last (suc t) then after_submission (suc t) w else w)
    (λ joins. one_of (Stands g (suc t) (suc t)) w.flying w (after_beginning w) (λ flying. absurd (true_is_false (sym flying ∙ still joins)))
    (λ none. join_case g i t w j joins none)) (λ unjoined. write_case g i t w j unjoined)
