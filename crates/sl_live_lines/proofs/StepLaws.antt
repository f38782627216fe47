-- A step of the locks by what they take of an entry is that by the entry.
use Rattle.sl_live_lines.specs.LocksAlong.{AlongState, asked_along, heard_in, lock_of}
use Rattle.sl_locks.specs.Steps.{heard_by, lock_input}
use Rattle.sl_run.specs.Locks.{Locks, Told, ended_locks, left_locks, locks_after, numbered_locks, replied_locks, turned_locks}
use Rattle.sl_run.specs.Lvm.{HeldLock, ends_lock, without_ended}
use Rattle.sl_trace.specs.declared.effects.Effects.{Effects}
use Rattle.sl_trace.specs.declared.effects.End.{End}
use Rattle.sl_trace.specs.declared.effects.Entry.{Entry}
use Rattle.sl_trace.specs.declared.effects.JobReply.{JobReply}
use Rattle.sl_trace.specs.declared.input.Input.TheVariants.{Answer as Told_of, Exit, Line, Number, Spawned, Wake}
use Rattle.sl_trace.specs.declared.input.Input.{Input}
use Rattle.std.proofs.Common.{List, None, Option, Some, [], ap, cond, refl, sym, ℕ, ◌≡◌, ◌∙◌, ◌∷◌}
use Rattle.std.specs.List.{find}
use Rattle.std.specs.Option.{option_to_list}
use Rattle.std.specs.Prelude.{Bool, false, filter, not, true, ◌==◌}

-- ---- the reply to the ask

-- What was found is found again where it stands alone.
again : (n : ℕ) (r : JobReply) (rest : Option JobReply) (b : Bool) → (r.job == n) ≡ b → find (λ x. x.job == n) (option_to_list rest) ≡ rest
    → find (λ x. x.job == n) (option_to_list (cond b (Some r) rest)) ≡ cond b (Some r) rest
again n r rest true is same = ap (λ t. cond t (Some r) None) is
again n r rest false is same = same

found_again : (n : ℕ) (rs : List JobReply) → find (λ r. r.job == n) (option_to_list (find (λ r. r.job == n) rs)) ≡ find (λ r. r.job == n) rs
found_again n [] = refl
found_again n (r ∷ rs) = again n r (find (λ x. x.job == n) rs) (r.job == n) refl (found_again n rs)

heard_again : (asked : Option ℕ) (rs : List JobReply) → heard_in asked (option_to_list (heard_in asked rs)) ≡ heard_in asked rs
heard_again None rs = refl
heard_again (Some n) rs = found_again n rs

replied_same : (fx fx' : Effects) (k : Locks) → heard_in k.asked fx'.replies ≡ heard_in k.asked fx.replies → replied_locks fx' k ≡ replied_locks fx k
replied_same fx fx' k same = ap (λ o. heard_by o k) same

-- ---- the locks that have left before it

all_kept : (area : ℕ) (hs : List HeldLock) → filter (λ (h : HeldLock). not (ends_lock area [] h.lock)) hs ≡ hs
all_kept area [] = refl
all_kept area (h ∷ hs) = ap (λ xs. h ∷ xs) (all_kept area hs)

none_leaves : (fx : Effects) (k : Locks) → fx.ends ≡ [] → left_locks fx k ≡ k
none_leaves fx k none =
    ap (λ (es : List End). record k { lvm = without_ended es k.lvm }) none
    ∙ ap (λ (hs : List HeldLock). record k { lvm = record k.lvm { held = hs } }) (all_kept k.lvm.area k.lvm.held)

ask_left : (n : ℕ) (text : List ℕ) (fx : Effects) (k : Locks) (due : Option (List ℕ)) → k.due ≡ due
    → (numbered_locks n (Line text) (left_locks fx k)).asked ≡ (numbered_locks n (Line text) k).asked
ask_left n text fx k None is = rw is refl
ask_left n text fx k (Some ask) is = rw is refl

asked_left : (n : ℕ) (i : Input) (fx : Effects) (k : Locks) → (numbered_locks n i (left_locks fx k)).asked ≡ (numbered_locks n i k).asked
asked_left n (Line text) fx k = ask_left n text fx k k.due refl
asked_left n (Number text) fx k = refl
asked_left n (Exit p) fx k = refl
asked_left n (Told_of call answer) fx k = refl
asked_left n Wake fx k = refl
asked_left n (Spawned process ok) fx k = refl

-- ---- a step

-- What a step of locks that have left does.
abbrev step_of : ℕ → Input → Effects → Locks → Locks × Told
step_of n i fx k = ended_locks i (turned_locks i fx (numbered_locks n i k))

step_same : (n : ℕ) (i : Input) (fx fx' : Effects) (k : Locks) → heard_in (numbered_locks n i k).asked fx'.replies ≡ heard_in (numbered_locks n i k).asked fx.replies
    → step_of n (lock_input (lock_of i)) fx' k ≡ step_of n i fx k
step_same n (Line text) fx fx' k same = replied_same fx fx' (numbered_locks n (Line text) k) same
step_same n (Number text) fx fx' k same = refl
step_same n (Exit p) fx fx' k same = ap (ended_locks (Exit p)) (replied_same fx fx' k same)
step_same n (Told_of call answer) fx fx' k same = replied_same fx fx' k same
step_same n Wake fx fx' k same = replied_same fx fx' k same
step_same n (Spawned process ok) fx fx' k same = replied_same fx fx' k same

after_same : (n : ℕ) (i : Input) (fx fx' : Effects) (k left : Locks) → fx'.ends ≡ [] → left ≡ left_locks fx k
    → heard_in (numbered_locks n i k).asked fx'.replies ≡ heard_in (numbered_locks n i k).asked fx.replies
    → locks_after n (lock_input (lock_of i)) fx' left ≡ locks_after n i fx k
unfolding locks_after
after_same n i fx fx' k left none is same =
    ap (step_of n (lock_input (lock_of i)) fx') (none_leaves fx' left none ∙ is)
    ∙ step_same n i fx fx' (left_locks fx k)
    (ap (λ asked. heard_in asked fx'.replies) (asked_left n i fx k) ∙ same ∙ ap (λ asked. heard_in asked fx.replies) (sym (asked_left n i fx k)))

-- With the one reply alone.
pub after_heard : (a : AlongState) (e : Entry) (asked : Option ℕ) (fx : Effects) (heard : List JobReply) (left : Locks) → asked ≡ asked_along a e
    → heard ≡ option_to_list (heard_in asked e.effects.replies) → fx.replies ≡ heard → fx.ends ≡ [] → left ≡ left_locks e.effects a.locks
    → locks_after a.job (lock_input (lock_of e.input)) fx left ≡ locks_after a.job e.input e.effects a.locks
after_heard a e asked fx heard left asked_is heard_is is none left_is =
    after_same a.job e.input e.effects fx a.locks left none left_is
    (ap (heard_in (asked_along a e)) (is ∙ heard_is ∙ ap (λ n. option_to_list (heard_in n e.effects.replies)) asked_is) ∙ heard_again (asked_along a e) e.effects.replies)
