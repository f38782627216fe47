-- The parts of a step are those of the definition.
use Rattle.sl_locks.specs.Replies.{told_as}
use Rattle.sl_locks.specs.Steps.{IsTurned, ask_numbered, given_number, heard_by, is_asked, is_quiet, lock_input, turned_by}
use Rattle.sl_locks.specs.Tables.{locks_of}
use Rattle.sl_locks.specs.declared.ask.Ask.{Ask}
use Rattle.sl_locks.specs.declared.line_steps.LockInput.TheVariants.{Exit as LockExit, Line as LockLine, Nothing, Number as LockNumber}
use Rattle.sl_locks.specs.declared.line_steps.LockInput.{LockInput}
use Rattle.sl_locks.specs.declared.table.LvmLocks.{LvmLocks}
use Rattle.sl_run.specs.Locks.{Locks, Told, ended_locks, left_locks, locks_after, numbered_locks, replied_locks, told_effects, turned_locks}
use Rattle.sl_trace.specs.declared.effects.Effects.{Effects}
use Rattle.sl_trace.specs.declared.effects.JobReply.{JobReply}
use Rattle.sl_words.proofs.CaseLaws.{false_is_true}
use Rattle.std.proofs.Common.{List, None, Option, Some, [], ap, arith, cond, eqb, refl, sym, ℕ, ◌≡◌, ◌∙◌, ◌∷◌}
use Rattle.std.proofs.lemmas.Bool.Decides.{nat_tests}
use Rattle.std.specs.List.{find}
use Rattle.std.specs.Prelude.{filter, is_some, not, option_and_then, option_map, true, ◌==◌}

-- ---- numbers

ask_number : (n : ℕ) (t : LvmLocks) (due : Option Ask) → t.due ≡ due → locks_of (ask_numbered n t) ≡ numbered_locks n (lock_input LockLine) (locks_of t)
ask_number n t None is = rw is refl
ask_number n t (Some a) is = rw is refl

pub numbers_are : (n : ℕ) (i : LockInput) (t : LvmLocks) → locks_of (given_number n i t) ≡ numbered_locks n (lock_input i) (locks_of t)
numbers_are n LockLine t = ask_number n t t.due refl
numbers_are n (LockNumber text) t = refl
numbers_are n (LockExit p) t = refl
numbers_are n Nothing t = refl

-- ---- the reply to the ask

nothing_asked : (rs : List JobReply) → find (is_asked None) rs ≡ None
nothing_asked [] = refl
nothing_asked (r ∷ rs) = nothing_asked rs

either_way : (n m : ℕ) → eqb n m ≡ eqb m n
either_way n m = grind (arith, nat_tests)

same_asked : (n : ℕ) (rs : List JobReply) → find (λ a. a.job == n) rs ≡ find (is_asked (Some n)) rs
same_asked n [] = refl
same_asked n (r ∷ rs) = ap (λ t. cond t (Some r) (find (λ a. a.job == n) rs)) (either_way r.job n) ∙ ap (λ o. cond (eqb n r.job) (Some r) o) (same_asked n rs)

reply_is : (asked : Option ℕ) (rs : List JobReply) → option_and_then (λ n. find (λ a. a.job == n) rs) asked ≡ find (is_asked asked) rs
reply_is None rs = sym (nothing_asked rs)
reply_is (Some n) rs = same_asked n rs

replied : (fx : Effects) (k : Locks) → replied_locks fx k ≡ heard_by (find (is_asked k.asked) fx.replies) k
replied fx k = ap (λ o. heard_by o k) (reply_is k.asked fx.replies)

pub turns_are : (i : LockInput) (fx : Effects) (k : Locks) → turned_locks (lock_input i) fx k ≡ turned_by i (find (is_asked k.asked) fx.replies) k
turns_are LockLine fx k = replied fx k
turns_are (LockNumber text) fx k = refl
turns_are (LockExit p) fx k = replied fx k
turns_are Nothing fx k = replied fx k

-- ---- a step that brings no turn

-- With no ask noted nothing is a reply to it.
all_told : (rs : List JobReply) → filter (λ a. not (is_asked None a)) rs ≡ rs
all_told [] = refl
all_told (r ∷ rs) = ap (λ (ys : List JobReply). r ∷ ys) (all_told rs)

quiet_turn : (i : LockInput) (asked : Option ℕ) (rs : List JobReply) (k : Locks) → is_quiet i asked ≡ true → turned_by i (find (is_asked asked) rs) k ≡ (k, None)
quiet_turn (LockNumber text) asked rs k quiet = absurd (false_is_true quiet)
quiet_turn LockLine None rs k quiet = ap (λ o. heard_by o k) (nothing_asked rs)
quiet_turn LockLine (Some n) rs k quiet = absurd (false_is_true quiet)
quiet_turn (LockExit p) None rs k quiet = ap (λ o. heard_by o k) (nothing_asked rs)
quiet_turn (LockExit p) (Some n) rs k quiet = absurd (false_is_true quiet)
quiet_turn Nothing None rs k quiet = ap (λ o. heard_by o k) (nothing_asked rs)
quiet_turn Nothing (Some n) rs k quiet = absurd (false_is_true quiet)

quiet_replies : (i : LockInput) (asked : Option ℕ) (rs : List JobReply) → is_quiet i asked ≡ true → filter (λ a. not (is_asked asked a)) rs ≡ rs
quiet_replies (LockNumber text) asked rs quiet = absurd (false_is_true quiet)
quiet_replies LockLine None rs quiet = all_told rs
quiet_replies LockLine (Some n) rs quiet = absurd (false_is_true quiet)
quiet_replies (LockExit p) None rs quiet = all_told rs
quiet_replies (LockExit p) (Some n) rs quiet = absurd (false_is_true quiet)
quiet_replies Nothing None rs quiet = all_told rs
quiet_replies Nothing (Some n) rs quiet = absurd (false_is_true quiet)

pub quiet_step : (i : LockInput) (fx : Effects) (t new : LvmLocks) → is_quiet i t.asked ≡ true → (locks_of new, told_as None) ≡ ended_locks (lock_input i) (locks_of t, told_as None)
    → IsTurned i fx t new (record { effects = fx; line = None })
quiet_step i fx t new quiet ends =
    record {
      left = ends ∙ ap (ended_locks (lock_input i)) (sym (quiet_turn i t.asked fx.replies (locks_of t) quiet));
      effects = ap (λ (rs : List JobReply). record fx { replies = rs }) (sym (quiet_replies i t.asked fx.replies quiet));
    }

-- ---- the whole step

pub step_is : (n : ℕ) (i : LockInput) (fx : Effects) (t left : LvmLocks) (k : Locks) (turned : Locks × Told) → locks_of left ≡ left_locks fx (locks_of t)
    → k ≡ locks_of (given_number n i left) → turned ≡ turned_by i (find (is_asked k.asked) fx.replies) k
    → ended_locks (lock_input i) turned ≡ locks_after n (lock_input i) fx (locks_of t)
unfolding locks_after
step_is n i fx t left k turned first numbered is =
    ap (ended_locks (lock_input i)) (is ∙ sym (turns_are i fx k)
    ∙ ap (turned_locks (lock_input i) fx) (numbered ∙ numbers_are n i left ∙ ap (numbered_locks n (lock_input i)) first))

-- What has left the table is no ask.
ask_left : (n : ℕ) (fx : Effects) (k : Locks) (due : Option (List ℕ)) → k.due ≡ due
    → (numbered_locks n (lock_input LockLine) (left_locks fx k)).asked ≡ (numbered_locks n (lock_input LockLine) k).asked
ask_left n fx k None is = rw is refl
ask_left n fx k (Some ask) is = rw is refl

asked_left : (n : ℕ) (i : LockInput) (fx : Effects) (k : Locks) → (numbered_locks n (lock_input i) (left_locks fx k)).asked ≡ (numbered_locks n (lock_input i) k).asked
asked_left n LockLine fx k = ask_left n fx k k.due refl
asked_left n (LockNumber text) fx k = refl
asked_left n (LockExit p) fx k = refl
asked_left n Nothing fx k = refl

pub told_is : (n : ℕ) (i : LockInput) (fx : Effects) (t left : LvmLocks) (asked : Option ℕ) → locks_of left ≡ left_locks fx (locks_of t)
    → asked ≡ (locks_of (given_number n i left)).asked
    → record fx { replies = filter (λ a. not (is_asked asked a)) fx.replies } ≡ told_effects n (lock_input i) fx (locks_of t)
unfolding told_effects
told_is n i fx t left asked first is =
    ap (λ (o : Option ℕ). record fx { replies = filter (λ a. not (is_asked o a)) fx.replies })
    (is ∙ ap (λ (k : Locks). k.asked) (numbers_are n i left ∙ ap (numbered_locks n (lock_input i)) first) ∙ asked_left n i fx (locks_of t))

-- An ask is due where its text is.
pub some_due : {A B : Type 0} (f : A → B) (o : Option A) → is_some o ≡ is_some (option_map f o)
some_due f None = refl
some_due f (Some a) = refl

pub ruleset due = (some_due)
