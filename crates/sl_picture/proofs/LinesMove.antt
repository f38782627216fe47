-- What a line of a schedule, with its lines of the report, makes of the bars of holdings.
use Rattle.sl_drawing.specs.Sums.{plus}
use Rattle.sl_picture.proofs.BarsStay.{Stays, answered_stays, begun, crashed_stays, denied_stays, down_stays, found_text, granted_stays, hidden_stays, holding_begun, landed_stays, left_names, made_row, new_is_in, nothing_in, over_stays, removed_stays, renewed_stays, same_rows, shown, shown_first, started_stays, stays_in, text_kept, ticked_stays, unshown, up_stays, with_row}
use Rattle.sl_picture.specs.HeldBars.{LinesMoveBars, Row, Shows, after_line, after_lines, granted_row, is_bar_on, is_row_of, row_of_bar, told_rows, without}
use Rattle.sl_picture.specs.Events.{call_answered, call_seen, clocks_grown, command, daemon_line, locks_line, machine_reset, machine_seen, passed, put_out, seen, time_passed, turned, verb_of}
use Rattle.sl_picture.specs.Fates.{act, changed, concerns, concerns_there, ends, is_holding, stays}
use Rattle.sl_picture.specs.Kept.{Kept, answered, asked, bar, begun_with, bridging, colour_of, command_ended, denied, fate_of, free_row, freed, gap, happened, hiding, is_alone, is_held, is_text, keeping, lane_at, marked, one_answered, place_of, stays_of, text_at, with_command, with_lane, with_link, without_holding}
use Rattle.sl_picture.specs.Said.{number_at, text_behind, two_parts, word_at}
use Rattle.sl_picture.specs.Tells.{all_told, call_of, connected, granted, happening, is_silent, mode_of, noted, renewed, replied, signal_of, silence, submitted, taken, test_of, told, told_of, with_column, with_line}
use Rattle.sl_picture.specs.declared.events.Verb.TheVariants as verb
use Rattle.sl_picture.specs.declared.events.Verb.{Verb}
use Rattle.sl_picture.specs.declared.fates.Deed.TheVariants.{CameUp, Crashed, Released, Removed, WentDown}
use Rattle.sl_picture.specs.declared.kept.Part.{Part}
use Rattle.sl_picture.specs.declared.shapes.Bar.{Bar}
use Rattle.sl_picture.specs.declared.shapes.Lane.{Lane}
use Rattle.sl_picture.specs.declared.shapes.Shape.TheVariants as shape
use Rattle.sl_picture.specs.declared.shapes.Shape.{Shape}
use Rattle.sl_picture.specs.declared.shapes.Sign.TheVariants as sign
use Rattle.sl_picture.specs.declared.tells.Told.TheVariants as told_as
use Rattle.sl_picture.specs.declared.tells.Told.{Told}
use Rattle.sl_text.specs.Forms.{lines_of}
use Rattle.sl_words.proofs.CaseLaws.{is_false, some_value, true_is_false, true_or_false}
use Rattle.sl_words.proofs.WordLaws.{and_true}
use Rattle.std.proofs.Common.{ap, inl, inr, refl, subst, sym, ◌∙◌}
use Rattle.std.proofs.lemmas.Bool.{eq-eqb, eqb-true, le-ltb}
use Rattle.std.specs.List.{flat_map}
use Rattle.std.specs.Option.{option_to_list}
use Rattle.std.specs.Prelude.{Bool, List, None, Option, Some, bytes_eq, codes, cond, drop, false, fold, if◌then◌else◌, length, nat_lt, not, suc, true, zero, [], ℕ, ◌%◌, ◌&&◌, ◌++◌, ◌+◌, ◌==◌, ◌∷◌, ◌≡◌, ◌≤◌, ◌⊎◌, ◌||◌}

-- ---- an end

and_turned : (a b : Bool) → (a && b) ≡ (b && a)
and_turned true true = refl
and_turned true false = refl
and_turned false true = refl
and_turned false false = refl

eqb_turned : (a b : ℕ) → (a == b) ≡ (b == a)
eqb_turned a b =
    elim (true_or_false (a == b)) as (λ z. (a == b) ≡ (b == a)) [
      | inl t ↦ t ∙ sym (eq-eqb b a (sym (eqb-true a b t)))
      | inr f ↦ f ∙ sym (is_false (b == a) (λ t. true_is_false (sym (eq-eqb a b (sym (eqb-true b a t))) ∙ f)))
    ]

module _ (k : Kept) (m p : ℕ) (name : List ℕ) where
  abbrev is_done : Bar → Bool
  is_done b = (b.machine == m) && (is_holding b.shape && is_text k.texts b.name name && (p == b.number))

  abbrev left : Bar → Option Bar
  left b = (fate_of (act Released m p) name k b).stays

  left_is : (b : Bar) → left b ≡ cond (is_done b) None (Some b)
  unfolding concerns concerns_there changed
  left_is b = by (is_done b) where
    by : (t : Bool) → (if t then ends k.here b else stays b).stays ≡ cond t None (Some b)
    by true = refl
    by false = refl

  -- A bar that isn't seen there.
  hidden_one : (n : ℕ) (b : Bar) (others : List Bar) (t : Bool) → is_bar_on n b ≡ false → shown k.texts n (option_to_list (cond t None (Some b)) ++ others) ≡ shown k.texts n others
  hidden_one n b others true other = refl
  hidden_one n b others false other = unshown k.texts n b others other

  seen_first : (n : ℕ) (b : Bar) (bs : List Bar) → is_bar_on n b ≡ true → shown k.texts n (b ∷ bs) ≡ row_of_bar k.texts b ∷ shown k.texts n bs
  seen_first n b bs on = shown_first k.texts n b bs ∙ ap (λ (t : Bool). cond t (row_of_bar k.texts b ∷ shown k.texts n bs) (shown k.texts n bs)) on

  done_so : (n : ℕ) (b : Bar) → m ≡ n → is_bar_on n b ≡ true → is_done b ≡ is_row_of p name (row_of_bar k.texts b)
  done_so n b same on =
      let both = and_true (is_holding b.shape) (b.machine == n) on in
      let here : (b.machine == m) ≡ true = ap (λ i. b.machine == i) same ∙ both.1 in
      let named : Bool = is_text k.texts b.name name in
      ap (λ (t : Bool). t && (is_holding b.shape && named && (p == b.number))) here ∙ ap (λ (t : Bool). t && named && (p == b.number)) both.0
      ∙ and_turned named (p == b.number) ∙ ap (λ (t : Bool). t && named) (eqb_turned p b.number)

  own_one : (n : ℕ) (b : Bar) (others bs : List Bar) → m ≡ n → shown k.texts n others ≡ without p name (shown k.texts n bs)
      → shown k.texts n (option_to_list (cond (is_done b) None (Some b)) ++ others) ≡ without p name (shown k.texts n (b ∷ bs))
  own_one n b others bs same rest =
      elim (true_or_false (is_bar_on n b)) as (λ z. shown k.texts n (option_to_list (cond (is_done b) None (Some b)) ++ others) ≡ without p name (shown k.texts n (b ∷ bs))) [
        | inr off ↦ hidden_one n b others (is_done b) off ∙ rest ∙ sym (ap (without p name) (unshown k.texts n b bs off))
        | inl on ↦ ap (λ (t : Bool). shown k.texts n (option_to_list (cond t None (Some b)) ++ others)) (done_so n b same on)
            ∙ by on (is_row_of p name (row_of_bar k.texts b)) ∙ sym (ap (without p name) (seen_first n b bs on))
      ]
    where
      by : is_bar_on n b ≡ true → (t : Bool)
          → shown k.texts n (option_to_list (cond t None (Some b)) ++ others) ≡ cond (not t) (row_of_bar k.texts b ∷ without p name (shown k.texts n bs)) (without p name (shown k.texts n bs))
      by on true = rest
      by on false = seen_first n b others on ∙ ap (λ (rs : List Row). row_of_bar k.texts b ∷ rs) rest

  own_rows : (n : ℕ) (bs : List Bar) → m ≡ n → shown k.texts n (flat_map (λ b. option_to_list (left b)) bs) ≡ without p name (shown k.texts n bs)
  own_rows n [] same = refl
  own_rows n (b ∷ bs) same =
      ap (λ (o : Option Bar). shown k.texts n (option_to_list o ++ flat_map (λ b. option_to_list (left b)) bs)) (left_is b)
      ∙ own_one n b (flat_map (λ b. option_to_list (left b)) bs) bs same (own_rows n bs same)

  not_done : (n : ℕ) (b : Bar) → (m ≡ n → ⊥) → is_bar_on n b ≡ true → is_done b ≡ false
  not_done n b other on =
      let both = and_true (is_holding b.shape) (b.machine == n) on in
      is_false (is_done b) (λ t. other (sym (eqb-true b.machine m (and_true (b.machine == m) _ t).0) ∙ eqb-true b.machine n both.1))

  other_one : (n : ℕ) (b : Bar) (others bs : List Bar) → (m ≡ n → ⊥) → shown k.texts n others ≡ shown k.texts n bs
      → shown k.texts n (option_to_list (cond (is_done b) None (Some b)) ++ others) ≡ shown k.texts n (b ∷ bs)
  other_one n b others bs other rest =
      elim (true_or_false (is_bar_on n b)) as (λ z. shown k.texts n (option_to_list (cond (is_done b) None (Some b)) ++ others) ≡ shown k.texts n (b ∷ bs)) [
        | inr off ↦ hidden_one n b others (is_done b) off ∙ rest ∙ sym (unshown k.texts n b bs off)
        | inl on ↦ ap (λ (t : Bool). shown k.texts n (option_to_list (cond t None (Some b)) ++ others)) (not_done n b other on)
            ∙ seen_first n b others on ∙ ap (λ (rs : List Row). row_of_bar k.texts b ∷ rs) rest ∙ sym (seen_first n b bs on)
      ]

  other_rows : (n : ℕ) (bs : List Bar) → (m ≡ n → ⊥) → shown k.texts n (flat_map (λ b. option_to_list (left b)) bs) ≡ shown k.texts n bs
  other_rows n [] other = refl
  other_rows n (b ∷ bs) other =
      ap (λ (o : Option Bar). shown k.texts n (option_to_list o ++ flat_map (λ b. option_to_list (left b)) bs)) (left_is b)
      ∙ other_one n b (flat_map (λ b. option_to_list (left b)) bs) bs other (other_rows n bs other)

  left_named : (b d : Bar) → left b ≡ Some d → d.name ≡ b.name
  left_named b d is = by (is_done b) (sym (left_is b) ∙ is) where
    none : None ≡ Some d → ⊥
    none h = absurd cc

    by : (t : Bool) → cond t None (Some b) ≡ Some d → d.name ≡ b.name
    by true h = absurd (none h)
    by false h = ap (λ (x : Bar). x.name) (sym (some_value b d h))

  -- The rows without what has ended.
  pub released : (part : Part) (rows : ℕ → List Row) → Shows part k rows
      → Shows part (happened (act Released m p) name k) (λ n. if m == n then without p name (rows n) else rows n)
  unfolding happened stays_of
  released part rows s = (s.0, left_names k.texts left k.opened left_named s.1, λ n. by n (true_or_false (m == n))) where
    by : (n : ℕ) → ((m == n) ≡ true) ⊎ ((m == n) ≡ false)
        → shown k.texts n (flat_map (λ b. option_to_list (left b)) k.opened) ≡ (if m == n then without p name (rows n) else rows n)
    by n (inl is) =
        own_rows n k.opened (eqb-true m n is) ∙ ap (without p name) (s.2 n) ∙ sym (ap (λ (t : Bool). if t then without p name (rows n) else rows n) is)
    by n (inr is) =
        other_rows n k.opened (λ same. true_is_false (sym (eq-eqb m n same) ∙ is)) ∙ s.2 n ∙ sym (ap (λ (t : Bool). if t then without p name (rows n) else rows n) is)

-- ---- what a line of the report tells

gap_is_none : (k : Kept) → is_holding (gap k) ≡ false
gap_is_none k = by k.resetting where
  by : (t : Bool) → is_holding (if t then shape.Wanted else shape.Gap) ≡ false
  by true = refl
  by false = refl

freed_stays : (m : ℕ) (resource : List ℕ) (k : Kept) → Stays k (freed m resource k)
freed_stays m resource k part rows s = by (is_held k.texts k.opened resource) where
  by : (t : Bool) → Shows part (if t then k else begun_with (record (bar m (gap k) k) { name = place_of resource k }) (keeping resource k)) rows
  by true = s
  by false =
      begun (record (bar m (gap k) k) { name = place_of resource k }) (keeping resource k) (gap_is_none k) (new_is_in k.texts resource) part rows
      (text_kept resource k part rows s)

link_stays : (m : ℕ) (lockspace : List ℕ) (until : ℕ) (k : Kept) → Stays k (with_link m shape.Joining lockspace until k)
link_stays m lockspace until k part rows s =
    begun (record (bar m shape.Joining k) { name = place_of lockspace k; row = free_row k.opened m false; until = until }) (keeping lockspace k) refl
    (new_is_in k.texts lockspace) part rows (text_kept lockspace k part rows s)

connected_stays : (line : List ℕ) (k : Kept) → Stays k (connected line k)
connected_stays line k part rows s = by (bytes_eq (word_at line 2) (codes "register")) (bytes_eq (word_at line 2) (codes "renew")) where
  by : (t u : Bool)
      → Shows part
      (if t then with_link (number_at line 0) shape.Joining (word_at line 3) (number_at line 4) k
      else if u then renewed (number_at line 0) (word_at line 3) (number_at line 4) k
      else happened (act Removed (number_at line 0) 0) (word_at line 3) k) rows
  by true u = link_stays (number_at line 0) (word_at line 3) (number_at line 4) k part rows s
  by false true = renewed_stays (word_at line 3) k (number_at line 0) (number_at line 4) part rows s
  by false false = removed_stays (word_at line 3) k (number_at line 0) part rows s

ended_stays : (m number : ℕ) (s : Shape) (reply : List ℕ) (k : Kept) → Stays k (command_ended m number s reply k)
ended_stays m number s reply k part rows before = answered_stays [] (keeping reply k) m number s (place_of reply k) part rows (text_kept reply k part rows before)

one_stays : (m number : ℕ) (ok : Bool) (reply : List ℕ) (k : Kept) → Stays k (one_answered m number ok reply k)
one_stays m number true reply k part rows s = ended_stays m number shape.Accepted reply k part rows s
one_stays m number false reply k part rows s =
    ended_stays m number shape.Refused reply (denied (asked k.opened m number) k) part rows (denied_stays (text_at k.texts (asked k.opened m number)) k part rows s)

answer_stays : (m number : ℕ) (ok : Bool) (reply : List ℕ) (k : Kept) → Stays k (answered m number ok reply k)
answer_stays m number ok reply k part rows s = by (lane_at k.lanes m).locks (is_alone k.opened m) where
  by : (t u : Bool)
      → Shows part (if t then (if u then one_answered m 0 ok reply k else command_ended m 0 shape.Unclear reply k) else one_answered m number ok reply k) rows
  by true true = one_stays m 0 ok reply k part rows s
  by true false = ended_stays m 0 shape.Unclear reply k part rows s
  by false u = one_stays m number ok reply k part rows s

call_is_none : (w : List ℕ) → is_holding (call_of w) ≡ false
call_is_none w = by (bytes_eq w (codes "write")) where
  by : (t : Bool) → is_holding (if t then shape.Write else shape.Read) ≡ false
  by true = refl
  by false = refl

submitted_stays : (line : List ℕ) (k : Kept) → Stays k (submitted line k)
submitted_stays line k part rows s =
    let what : List ℕ = text_behind line 3 in
    let n : Kept = keeping what k in
    begun (record (bar (number_at line 0) (call_of (word_at line 3)) n) { number = number_at line 2; name = place_of what k }) n (call_is_none (word_at line 3))
    (new_is_in k.texts what) part rows (text_kept what k part rows s)

mode_is_held : (w : List ℕ) → is_holding (mode_of w) ≡ true
mode_is_held w = by (bytes_eq w (codes "sh")) where
  by : (t : Bool) → is_holding (if t then shape.Shared else shape.Exclusive) ≡ true
  by true = refl
  by false = refl

granted_moves : (line : List ℕ) (k : Kept) (part : Part) (rows : ℕ → List Row) → Shows part k rows → Shows part (granted line k) (with_row (number_at line 0) (granted_row line) rows)
granted_moves line k part rows s =
    let m : ℕ = number_at line 0 in
    let resource : List ℕ = word_at line 3 in
    let row : ℕ = free_row k.opened m true in
    let h : Kept = bridging m row resource k in
    let n : Kept = keeping resource h in
    let b : Bar = record (bar m (mode_of (word_at line 4)) h) { number = number_at line 2; until = number_at line 5; colour = colour_of h.texts h.resources resource; row = row; name = place_of resource h } in
    same_rows part (begun_with b n) (with_row m (row_of_bar n.texts b) rows) (with_row m (granted_row line) rows)
    (λ i. ap (λ (name : List ℕ). with_row m (made_row (number_at line 2) name (mode_of (word_at line 4)) (number_at line 5)) rows i) (found_text h.texts resource))
    (holding_begun b n part rows (mode_is_held (word_at line 4)) (new_is_in h.texts resource)
    (text_kept resource h part rows (granted_stays resource k m row part rows s)))

either_way : (t : Bool) (rows : List Row) → rows ≡ (if t then rows else rows)
either_way true rows = refl
either_way false rows = refl

told_moves : (line : List ℕ) (k : Kept) (part : Part) (rows : ℕ → List Row) → Shows part k rows → Shows part (told line k) (λ n. after_line n (rows n) line)
unfolding told
told_moves line k part rows s = by (told_of (word_at line 1)) where
  m : ℕ
  m = number_at line 0

  quietly : (n : Kept) → Stays k n → Shows part n (λ i. if number_at line 0 == i then rows i else rows i)
  quietly n goes = same_rows part n rows (λ i. if number_at line 0 == i then rows i else rows i) (λ i. either_way (number_at line 0 == i) (rows i)) (goes part rows s)

  by : (t : Told)
      → Shows part
      (elim t as (λ z. Kept) [
        | told_as.End ↦ without_holding (number_at line 0) (number_at line 2) (word_at line 3) k
        | told_as.Signal ↦ marked (number_at line 0) (signal_of (word_at line 3)) k
        | told_as.Connection ↦ connected line k
        | told_as.Grant ↦ granted line k
        | told_as.Reply ↦ replied line k
        | told_as.Call ↦ submitted line k
        | told_as.Test ↦ marked (number_at line 0) (test_of (word_at line 2)) k
        | told_as.Other ↦ k
      ])
      (λ n. if number_at line 0 == n
      then told_rows line (rows n) t
      else rows n)
  by told_as.End =
      freed_stays (number_at line 0) (word_at line 3) (happened (act Released (number_at line 0) (number_at line 2)) (word_at line 3) k) part
      (λ n. if number_at line 0 == n then without (number_at line 2) (word_at line 3) (rows n) else rows n)
      (released k (number_at line 0) (number_at line 2) (word_at line 3) part rows s)
  by told_as.Grant = granted_moves line k part rows s
  by told_as.Signal = quietly (marked (number_at line 0) (signal_of (word_at line 3)) k) (λ p r x. x)
  by told_as.Connection = quietly (connected line k) (connected_stays line k)
  by told_as.Reply =
      quietly (replied line k) (answer_stays (number_at line 0) (number_at line 2) (bytes_eq (word_at line 3) (codes "ok")) (text_behind line 3) k)
  by told_as.Call = quietly (submitted line k) (submitted_stays line k)
  by told_as.Test = quietly (marked (number_at line 0) (test_of (word_at line 2)) k) (λ p r x. x)
  by told_as.Other = quietly k (λ p r x. x)

all_move : (ls : List (List ℕ)) (k : Kept) (part : Part) (rows : ℕ → List Row) → Shows part k rows
    → Shows part (fold (λ n line. told line n) k ls) (λ m. after_lines m ls (rows m))
all_move [] k part rows s = s
all_move (l ∷ ls) k part rows s = all_move ls (told l k) part (λ m. after_line m (rows m) l) (told_moves l k part rows s)

-- ---- what a line of the schedule means

command_stays : (m : ℕ) (locks : Bool) (about text : List ℕ) (k : Kept) → Stays k (with_command m locks about text k)
command_stays m locks about text k part rows s =
    let lane : Lane = lane_at k.lanes m in
    let number : ℕ = plus lane.commands 1 in
    let l : Kept = with_lane m (record lane { commands = number; locks = lane.locks || locks }) k in
    let n : Kept = keeping about l in
    begun (record (bar m shape.Waiting n) { number = number; row = lane.commands % 3; name = place_of about l; text = place_of text n }) (keeping text n) refl
    (stays_in n.texts text (place_of about l) (new_is_in l.texts about)) part rows (text_kept text n part rows (text_kept about l part rows s))

clocks_stay : (line : List ℕ) (time n : ℕ) (k : Kept) → Stays k (clocks_grown line time n k)
clocks_stay line time zero k part rows s = s
clocks_stay line time (suc n) k part rows s = clocks_stay line time n k part rows s

passed_stays : (line : List ℕ) (k : Kept) → Stays k (passed line k)
passed_stays line k part rows s =
    let time : ℕ = number_at line 1 in
    let n : Kept = time_passed time k in
    ticked_stays [] (clocks_grown line time (length n.lanes) n) part rows (clocks_stay line time (length n.lanes) n part rows (by time (nat_lt 0 time)))
  where
    by : (time : ℕ) (t : Bool)
        → Shows part
        (let n : Kept = record k { here = record { events = k.here.events; moment = plus k.here.moment time } } in
        if t then record n { done = k.done ++ record (bar 0 shape.Passing n) { from = k.here } ∷ [] } else n) rows
    by time true = s
    by time false = s

call_ends : (m call : ℕ) (ok : Bool) (k : Kept) → Stays k (call_answered m call ok k)
call_ends m call true k part rows s = over_stays [] k m call part rows s
call_ends m call false k part rows s = over_stays [] (marked m sign.CallFailed k) m call part rows s

calls_stay : (v : Verb) (line : List ℕ) (k : Kept) → Stays k (call_seen v line k)
unfolding call_seen
calls_stay verb.Do line k part rows s = call_ends (number_at line 1) (number_at line 2) true k part rows s
calls_stay verb.Land line k part rows s = landed_stays [] k (number_at line 1) (number_at line 2) part rows s
calls_stay verb.Tear line k part rows s = landed_stays [] (marked (number_at line 1) sign.Torn k) (number_at line 1) (number_at line 2) part rows s
calls_stay verb.Answer line k part rows s = call_ends (number_at line 1) (number_at line 2) (bytes_eq (word_at line 3) (codes "ok")) k part rows s
calls_stay verb.Drop line k part rows s = over_stays [] (marked (number_at line 1) sign.Dropped k) (number_at line 1) (number_at line 2) part rows s
calls_stay verb.Command line k part rows s = s
calls_stay verb.Pass line k part rows s = s
calls_stay verb.Start line k part rows s = s
calls_stay verb.Crash line k part rows s = s
calls_stay verb.Reset line k part rows s = s
calls_stay verb.Restart line k part rows s = s
calls_stay verb.Other line k part rows s = s

crash_stays : (m : ℕ) (k : Kept) → Stays k (put_out m Crashed sign.Crash shape.Idle k)
crash_stays m k part rows s =
    let n : Kept = turned m Crashed sign.Crash k in
    begun (bar m shape.Idle n) n refl (nothing_in n.texts) part rows (crashed_stays [] (marked m sign.Crash k) m part rows s)

reset_stays : (m : ℕ) (k : Kept) → Stays k (machine_reset m k)
reset_stays m k part rows s =
    let j : Kept = record k { resetting = true } in
    let n : Kept = turned m WentDown sign.Reset j in
    begun (bar m shape.Down n) n refl (nothing_in n.texts) part rows (down_stays [] (marked m sign.Reset j) m part rows s)

restart_stays : (m : ℕ) (k : Kept) → Stays k (put_out m CameUp sign.Restart shape.Idle k)
restart_stays m k part rows s =
    let n : Kept = turned m CameUp sign.Restart k in
    begun (bar m shape.Idle n) n refl (nothing_in n.texts) part rows (up_stays [] (marked m sign.Restart k) m part rows s)

machines_stay : (v : Verb) (m : ℕ) (k : Kept) → Stays k (machine_seen v m k)
unfolding machine_seen
machines_stay verb.Start m k part rows s = started_stays [] (marked m sign.Start k) m part rows s
machines_stay verb.Crash m k part rows s = crash_stays m k part rows s
machines_stay verb.Reset m k part rows s = reset_stays m k part rows s
machines_stay verb.Restart m k part rows s = restart_stays m k part rows s
machines_stay verb.Do m k part rows s = s
machines_stay verb.Land m k part rows s = s
machines_stay verb.Tear m k part rows s = s
machines_stay verb.Answer m k part rows s = s
machines_stay verb.Drop m k part rows s = s
machines_stay verb.Command m k part rows s = s
machines_stay verb.Pass m k part rows s = s
machines_stay verb.Other m k part rows s = s

commands_stay : (line : List ℕ) (k : Kept) → Stays k (command line k)
commands_stay line k part rows s = by (bytes_eq (word_at line 2) (codes "lvm")) where
  by : (t : Bool) → Shows part (if t then locks_line line k else daemon_line line k) rows
  by true = command_stays (number_at line 1) true (codes ":" ++ word_at line 4) (text_behind line 3) k part rows s
  by false = command_stays (number_at line 1) false (two_parts (word_at line 4)) (text_behind line 2) k part rows s

seen_stays : (line : List ℕ) (k : Kept) → Stays k (seen line k)
unfolding seen
seen_stays line k part rows s = by (verb_of (word_at line 0)) where
  n : Kept
  n = record k { resetting = false }

  by : (v : Verb)
      → Shows part
      (elim v as (λ z. Kept) [
        | verb.Command ↦ command line (record k { resetting = false })
        | verb.Pass ↦ passed line (record k { resetting = false })
        | verb.Do ↦ call_seen verb.Do line (record k { resetting = false })
        | verb.Land ↦ call_seen verb.Land line (record k { resetting = false })
        | verb.Tear ↦ call_seen verb.Tear line (record k { resetting = false })
        | verb.Answer ↦ call_seen verb.Answer line (record k { resetting = false })
        | verb.Drop ↦ call_seen verb.Drop line (record k { resetting = false })
        | verb.Start ↦ machine_seen verb.Start (number_at line 1) (record k { resetting = false })
        | verb.Crash ↦ machine_seen verb.Crash (number_at line 1) (record k { resetting = false })
        | verb.Reset ↦ machine_seen verb.Reset (number_at line 1) (record k { resetting = false })
        | verb.Restart ↦ machine_seen verb.Restart (number_at line 1) (record k { resetting = false })
        | verb.Other ↦ record k { resetting = false }
      ]) rows
  by verb.Command = commands_stay line (record k { resetting = false }) part rows s
  by verb.Pass = passed_stays line (record k { resetting = false }) part rows s
  by verb.Do = calls_stay verb.Do line (record k { resetting = false }) part rows s
  by verb.Land = calls_stay verb.Land line (record k { resetting = false }) part rows s
  by verb.Tear = calls_stay verb.Tear line (record k { resetting = false }) part rows s
  by verb.Answer = calls_stay verb.Answer line (record k { resetting = false }) part rows s
  by verb.Drop = calls_stay verb.Drop line (record k { resetting = false }) part rows s
  by verb.Start = machines_stay verb.Start (number_at line 1) (record k { resetting = false }) part rows s
  by verb.Crash = machines_stay verb.Crash (number_at line 1) (record k { resetting = false }) part rows s
  by verb.Reset = machines_stay verb.Reset (number_at line 1) (record k { resetting = false }) part rows s
  by verb.Restart = machines_stay verb.Restart (number_at line 1) (record k { resetting = false }) part rows s
  by verb.Other = s

-- ---- a whole line

silence_stays : (line : List ℕ) (k : Kept) → Stays k (silence line k)
silence_stays line k part rows s = by (length line == 0) where
  by : (t : Bool) → Shows part (if t then k else noted (drop 1 line) k) rows
  by true = s
  by false = text_kept (drop 1 line) k part rows s

column_stays : (number : ℕ) (line report : List ℕ) (k : Kept) → Stays k (with_column number line report k)
column_stays number line report k part rows s = text_kept report (keeping line k) part rows (text_kept line k part rows s)

happening_moves : (number : ℕ) (line report : List ℕ) (k : Kept) (part : Part) (rows : ℕ → List Row) → Shows part k rows
    → Shows part (happening number line report k) (λ m. after_lines m (lines_of report) (rows m))
happening_moves number line report k part rows s = by (bytes_eq (word_at line 0) (codes "pass")) where
  after : ℕ → List Row
  after m = after_lines m (lines_of report) (rows m)

  told_all : Shows part (all_told report (seen line k)) (λ m. after_lines m (lines_of report) (rows m))
  told_all = all_move (lines_of report) (seen line k) part rows (seen_stays line k part rows s)

  by : (t : Bool)
      → Shows part (if t then all_told report (seen line k) else with_column number line report (all_told report (seen line k))) (λ m. after_lines m (lines_of report) (rows m))
  by true = told_all
  by false = column_stays number line report (all_told report (seen line k)) part (λ m. after_lines m (lines_of report) (rows m)) told_all

line_moves : (number : ℕ) (line report : List ℕ) (k : Kept) (part : Part) (rows : ℕ → List Row) → (is_silent line ≡ true → lines_of report ≡ []) → Shows part k rows
    → Shows part (with_line number line report k) (λ m. after_lines m (lines_of report) (rows m))
line_moves number line report k part rows silent s = by (is_silent line) silent where
  by : (t : Bool) → (t ≡ true → lines_of report ≡ [])
      → Shows part (if t then silence line k else happening number line report k) (λ m. after_lines m (lines_of report) (rows m))
  by true none =
      same_rows part (silence line k) rows (λ m. after_lines m (lines_of report) (rows m)) (λ m. sym (ap (λ (ls : List (List ℕ)). after_lines m ls (rows m)) (none refl)))
      (silence_stays line k part rows s)
  by false none = happening_moves number line report k part rows s

hiding_stays : (k : Kept) → Stays k (hiding k)
hiding_stays k part rows s =
    hidden_stays [] (record k { here = record { events = 0; moment = k.here.moment }; begun = k.here.moment; done = []; marks = []; columns = []; notes = [] }) part rows s

pub lines_move_bars : LinesMoveBars
unfolding taken
lines_move_bars part number line report k rows drawn silent s =
    subst (λ (t : Bool). Shows part (if t then k else (if nat_lt number n.part.first then hiding n else n)) (λ m. after_lines m (lines_of report) (rows m)))
    (sym (le-ltb k.part.last number (subst (λ (q : Part). number ≤ q.last) (sym s.0) drawn))) (by (nat_lt number n.part.first))
  where
    n : Kept
    n = with_line number line report k

    moved : Shows part n (λ m. after_lines m (lines_of report) (rows m))
    moved = line_moves number line report k part rows silent s

    by : (t : Bool) → Shows part (if t then hiding n else n) (λ m. after_lines m (lines_of report) (rows m))
    by true = hiding_stays n part (λ m. after_lines m (lines_of report) (rows m)) moved
    by false = moved
