-- What a machine keeps is among its stamps.
use Rattle.sl_run_law.proofs.Front.JoinedLists.{contains_left, contains_right, in_flat}
use Rattle.sl_run_law.proofs.Moment.AddedNow.{daemon_stamps}
use Rattle.sl_run_law.specs.Moment.MomentsFollowSteps.{stamps_on}
use Rattle.sl_words.proofs.Lists.{contains_cases, contains_first, contains_map, contains_more, contains_none}
use Rattle.sl_run.specs.Worlds.{Course, Daemon, Machine, Stamp, daemons_on}
use Rattle.std.proofs.Common.{inl, inr, subst, sym}
use Rattle.std.specs.List.{cons_option}
use Rattle.std.specs.Prelude.{Contains, List, None, Option, Some, filter_map, map, [], ◌++◌, ◌∷◌, ◌≡◌}

behind_option : {B : Type 0} (o : Option B) (ys : List B) (y : B) → Contains ys y → Contains (cons_option o ys) y
behind_option None ys y h = h
behind_option (Some z) ys y h = contains_more z ys y h

in_filter_map : {A B : Type 0} (f : A → Option B) (xs : List A) (x : A) (y : B) → Contains xs x → f x ≡ Some y → Contains (filter_map f xs) y
in_filter_map f [] x y h is = absurd (contains_none x h)
in_filter_map f (z ∷ xs) x y h is =
    elim (contains_cases z xs x h) as (λ t. Contains (cons_option (f z) (filter_map f xs)) y) [
      | inl e ↦ subst (λ t. Contains (cons_option (f t) (filter_map f xs)) y) (sym e)
          (subst (λ o. Contains (cons_option o (filter_map f xs)) y) (sym is) (contains_first y (filter_map f xs)))
      | inr more ↦ behind_option (f z) (filter_map f xs) y (in_filter_map f xs x y more is)
    ]

abbrev made_on : Machine → List Stamp
made_on a = map (λ c. c.made) a.calls

abbrev answers_on : Machine → List Stamp
answers_on a = filter_map (λ c. c.answered) a.calls

pub kept_is_stamp : (a : Machine) → Contains (stamps_on a) a.kept
kept_is_stamp a = contains_first a.kept (a.resets ++ daemon_stamps (daemons_on a) ++ made_on a ++ answers_on a)

pub answer_is_stamp : (a : Machine) (c : Course) (s : Stamp) → Contains a.calls c → c.answered ≡ Some s → Contains (stamps_on a) s
answer_is_stamp a c s has is =
    contains_right (a.kept ∷ (a.resets ++ daemon_stamps (daemons_on a) ++ made_on a)) (answers_on a) s (in_filter_map (λ x. x.answered) a.calls c s has is)

pub made_is_stamp : (a : Machine) (c : Course) → Contains a.calls c → Contains (stamps_on a) c.made
made_is_stamp a c has =
    contains_left (a.kept ∷ (a.resets ++ daemon_stamps (daemons_on a) ++ made_on a)) (answers_on a) c.made
    (contains_right (a.kept ∷ (a.resets ++ daemon_stamps (daemons_on a))) (made_on a) c.made (contains_map (λ x. x.made) a.calls c has))

of_daemon : (a : Machine) (d : Daemon) (s : Stamp) → Contains (daemons_on a) d → Contains (d.begun ∷ d.stamps) s → Contains (stamps_on a) s
of_daemon a d s has h =
    contains_left (a.kept ∷ (a.resets ++ daemon_stamps (daemons_on a) ++ made_on a)) (answers_on a) s
    (contains_left (a.kept ∷ (a.resets ++ daemon_stamps (daemons_on a))) (made_on a) s
    (contains_right (a.kept ∷ a.resets) (daemon_stamps (daemons_on a)) s (in_flat (λ x. x.begun ∷ x.stamps) (daemons_on a) d s has h)))

pub begun_is_stamp : (a : Machine) (d : Daemon) → Contains (daemons_on a) d → Contains (stamps_on a) d.begun
begun_is_stamp a d has = of_daemon a d d.begun has (contains_first d.begun d.stamps)

pub entry_is_stamp : (a : Machine) (d : Daemon) (s : Stamp) → Contains (daemons_on a) d → Contains d.stamps s → Contains (stamps_on a) s
entry_is_stamp a d s has h = of_daemon a d s has (contains_more d.begun d.stamps s h)

pub reset_is_stamp : (a : Machine) (s : Stamp) → Contains a.resets s → Contains (stamps_on a) s
reset_is_stamp a s h =
    contains_left (a.kept ∷ (a.resets ++ daemon_stamps (daemons_on a) ++ made_on a)) (answers_on a) s
    (contains_left (a.kept ∷ (a.resets ++ daemon_stamps (daemons_on a))) (made_on a) s
    (contains_left (a.kept ∷ a.resets) (daemon_stamps (daemons_on a)) s (contains_more a.kept a.resets s h)))
