-- What is read behind a verb is what the verb's forms make, and fails at the same column.
use Rattle.sl_area.specs.AreaSizes.{Layout}
use Rattle.sl_command.proofs.SharedTests.{behind_test, behind_word, made_behind, map_some, next_as-value, one_kind, read_by-shared, some_before, some_go_on, two_kinds}
use Rattle.sl_command.specs.Arguments.{is_asking_word, is_clearing_word, is_moded_word, moded_of_word, request_of_word}
use Rattle.sl_command.specs.VerbReads.{acquire_read, acquiring, asking_tests, clearing_tests, convert_read, for_process, force_with, held_by, holder_behind, killpath_read, killpath_tests, lockspace_behind, option_read, options_read, past_option, process_behind, process_tests, program_behind, program_read, program_tests, release_read, releaser_behind, releasing, request_read, value_read, value_tests, wanted, with_resource, with_value}
use Rattle.sl_text.proofs.FormLaws.{read_by-end, read_by-one, read_by-other, read_by-verb, read_by-verbs, read_each-map, read_from-is}
use Rattle.sl_text.specs.Forms.{Form, bad_column, exactly, made_by, pieces, word_at, words_of}
use Rattle.sl_text.specs.Numbers.{hex_bytes, is_number_text, number_of}
use Rattle.sl_text.specs.Walks.{NoneFits, Unread, at_end, form_with, forms_behind, going_on, next_as, next_passes, past_word, read_by, read_each, read_from, unread}
use Rattle.sl_trace.specs.CommandForms.{asked_of_word, command_in, command_or, forms, is_lockspace_word, is_process_word, is_resource_front, is_resource_word, is_shared_word, lockspace_of_word, option_words, resource_of_word}
use Rattle.sl_trace.specs.declared.command.Command.TheVariants.{AddLockspace, Convert, GetLvb, HostStatus, InqLockspace, Release, ReleaseOrphan, RemLockspace, Request, RunProgram, SetKillpath, SetLvb, Status}
use Rattle.sl_trace.specs.declared.command.Command.{Command}
use Rattle.sl_trace.specs.declared.command.LockspaceArg.{LockspaceArg}
use Rattle.sl_trace.specs.declared.command.ResourceArg.{ResourceArg}
use Rattle.sl_words.proofs.CaseLaws.{is_false, not_both}
use Rattle.sl_words.proofs.WordLaws.{and_true}
use Rattle.sl_words.specs.Results.{◌>>=◌}
use Rattle.sl_words.specs.Words.{is_empty}
use Rattle.std.proofs.Common.{Bool, List, [], ap, arith, drop, eqb, false, length, map, refl, subst, sym, take, true, ℕ, ◌&&◌, ◌++◌, ◌-◌, ◌^◌, ◌≡◌, ◌∙◌, ◌∷◌}
use Rattle.std.proofs.lemmas.Bool.{eqb-true}
use Rattle.std.proofs.lemmas.Bool.Decides.{nat_tests}
use Rattle.std.proofs.lemmas.Slice.Eq.{bytes_eq-Decides}
use Rattle.std.specs.Int.{is_in_range}
use Rattle.std.specs.Option.{ok_or}
use Rattle.std.specs.Prelude.{Err, None, Ok, Option, Result, Some, bytes_eq, codes, not, if◌then◌else◌, ◌==◌}

-- ---- one form behind a resource's word

-- A flag, a word and what stands behind it, as one form.
pub one_form : {A B C : Type 0} (p : List ℕ → Bool) (value : List ℕ → A) (tail : List (List ℕ → Bool)) (behind : List (List ℕ) → B) (make : A → B → C)
    (whole : List (List ℕ) → C) (u : Unread) → ((f w : List ℕ) (ws : List (List ℕ)) → whole (f ∷ w ∷ ws) ≡ make (value w) (behind ws))
    → with_resource p value (λ a. read_each tail behind) make u ≡ read_each (exactly (codes "-r") ∷ p ∷ tail) whole u
one_form p value tail behind make whole u made =
    one_kind (codes "-r") p value (λ a. read_each tail behind) make (record { words = tail; make = whole } ∷ []) u refl (λ f w v h.
    sym (read_each-map (make (value w)) tail behind v) ∙ ap (λ m. read_each tail m v) (λ i ws. sym (made f w ws) i) ∙ sym (read_by-one tail (λ ws. whole (f ∷ w ∷ ws)) v))
    ∙ read_by-one (exactly (codes "-r") ∷ p ∷ tail) whole u

-- ---- options and processes

-- A word is not two texts.
pub apart_texts : (a b w : List ℕ) → exactly b a ≡ false → exactly a w ≡ true → exactly b w ≡ false
apart_texts a b w other is = subst (λ (v : List ℕ). exactly b v ≡ false) ((bytes_eq-Decides a w).0 is) other

-- The last option.
abbrev last_forms : Bool → List (Form (Bool × Bool))
last_forms persistent =
    record { words = []; make = λ ws. wanted persistent false } ∷ record { words = option_words (codes "-O"); make = λ ws. wanted persistent true } ∷ []

abbrev last_read : Bool → Unread → Result (Bool × Bool) ℕ
last_read persistent u = option_read (codes "-O") u >>= λ orphan. at_end (past_option orphan u) >>= λ _. Ok (wanted persistent orphan)

last_from : (persistent : Bool) (column : ℕ) (ws : List (List ℕ)) → last_read persistent (record { column = column; words = ws }) ≡ read_from (last_forms persistent) column ws
last_from persistent column [] = refl
last_from persistent column (w ∷ ws) =
    let u : Unread = record { column = column; words = w ∷ ws } in
    let v : Unread = past_word u in
    elim (exactly (codes "-O") w) as (λ t. ((if t then next_as (exactly (codes "1")) (λ _. true) v else Ok false)
    >>= λ orphan. at_end (past_option orphan u) >>= λ _. Ok (wanted persistent orphan))
    ≡ going_on {A = Bool × Bool} ((if t then record { words = exactly (codes "1") ∷ []; make = λ vs. wanted persistent true } ∷ [] else []) ++ []) column (λ gs. read_from gs v.column v.words)) [
      | true ↦ next_as-value (exactly (codes "1")) (λ _. true) (λ orphan. at_end (past_option orphan u) >>= λ _. Ok (wanted persistent orphan)) v
          ∙ sym (read_by-one (exactly (codes "1") ∷ []) (λ vs. wanted persistent true) v)
      | false ↦ sym (read_by-end (λ vs. wanted persistent false) u)
    ]

-- All options of an acquire.
abbrev option_forms : List (Form (Bool × Bool))
option_forms =
    record { words = []; make = λ ws. wanted false false }
    ∷ record { words = option_words (codes "-P"); make = λ ws. wanted true false }
    ∷ record { words = option_words (codes "-O"); make = λ ws. wanted false true }
    ∷ record { words = option_words (codes "-P") ++ option_words (codes "-O"); make = λ ws. wanted true true } ∷ []

-- Of two tests at most one takes the word.
one_takes : {A : Type 0} (s t : Bool) (a b c : Form A) (column : ℕ) (next : List (Form A) → Result A ℕ) → (s ≡ true → t ≡ false)
    → going_on ((if s then a ∷ [] else []) ++ ((if t then b ∷ [] else []) ++ ((if s then c ∷ [] else []) ++ []))) column next
    ≡ (if s then next (a ∷ c ∷ []) else going_on ((if t then b ∷ [] else []) ++ []) column next)
one_takes true true a b c column next apart = let e = apart refl in absurd cc
one_takes true false a b c column next apart = refl
one_takes false true a b c column next apart = refl
one_takes false false a b c column next apart = refl

either : {X : Type 0} (t : Bool) (x a b : X) (first : Bool → X) → x ≡ first t → (t ≡ true → first true ≡ a) → (t ≡ false → first false ≡ b) → x ≡ (if t then a else b)
either true x a b first is taken other = is ∙ taken refl
either false x a b first is taken other = is ∙ other refl

options_from : (column : ℕ) (ws : List (List ℕ)) → options_read (record { column = column; words = ws }) ≡ read_from option_forms column ws
options_from column [] = refl
options_from column (w ∷ ws) =
    let u : Unread = record { column = column; words = w ∷ ws } in
    let v : Unread = past_word u in
    either (exactly (codes "-P") w) (options_read u) _ _
    (λ t. (if t then next_as (exactly (codes "1")) (λ _. true) v else Ok false) >>= λ persistent. last_read persistent (past_option persistent u)) refl
    (λ h. next_as-value (exactly (codes "1")) (λ _. true) (λ persistent. last_read persistent (past_option persistent u)) v
    ∙ ap (λ r. next_as (exactly (codes "1")) (λ x. x) v >>= λ _. r) (last_from true (past_word v).column (past_word v).words)
    ∙ sym (read_by-shared (exactly (codes "1")) (last_forms true) v refl))
    (λ h. last_from false column (w ∷ ws))
    ∙ sym (one_takes (exactly (codes "-P") w) (exactly (codes "-O") w) (record { words = exactly (codes "1") ∷ []; make = λ vs. wanted true false })
    (record { words = exactly (codes "1") ∷ []; make = λ vs. wanted false true })
    (record { words = exactly (codes "1") ∷ option_words (codes "-O"); make = λ vs. wanted true true }) column (λ gs. read_from gs v.column v.words)
    (apart_texts (codes "-P") (codes "-O") w refl))

-- A process and its options.
abbrev holder_form : Form (Bool × Bool) → Form (ℕ × Bool × Bool)
holder_form f = record { words = exactly (codes "-p") ∷ is_process_word ∷ f.words; make = λ ws. held_by (number_of (word_at ws 1)) (f.make ws) }

abbrev holder_forms : List (Form (ℕ × Bool × Bool))
holder_forms = map holder_form option_forms

holder_is : (u : Unread) → holder_behind u ≡ read_by holder_forms u
holder_is u =
    one_kind (codes "-p") is_process_word number_of (λ p. options_read) held_by
    (map (λ (f : Form (Bool × Bool)). record { words = f.words; make = λ ws. held_by (number_of (word_at ws 1)) (f.make ws) }) option_forms) u refl
    (λ f w v h. made_behind (number_of w) options_read held_by option_forms v (options_from v.column v.words))

-- Who releases.
abbrev releaser_forms : List (Form (Option ℕ))
releaser_forms = record { words = process_tests; make = λ ws. Some (number_of (word_at ws 1)) } ∷ record { words = option_words (codes "-O"); make = λ ws. None } ∷ []

releaser_from : (column : ℕ) (ws : List (List ℕ)) → releaser_behind (record { column = column; words = ws }) ≡ read_from releaser_forms column ws
releaser_from column [] = refl
releaser_from column (w ∷ ws) =
    let u : Unread = record { column = column; words = w ∷ ws } in
    let v : Unread = past_word u in
    let process : List (Form (Option ℕ)) = record { words = is_process_word ∷ []; make = λ vs. Some (number_of (word_at vs 0)) } ∷ [] in
    let orphan : List (Form (Option ℕ)) = record { words = exactly (codes "1") ∷ []; make = λ vs. None } ∷ [] in
    let whole : List (List ℕ) → Option ℕ = (λ vs. Some (number_of (word_at vs 1))) in
    elim (exactly (codes "-O") w) as (λ t. exactly (codes "-O") w ≡ t
    → (if t then read_each (exactly (codes "1") ∷ []) (λ vs. None) v else process_behind u >>= λ p. Ok (Some p))
    ≡ going_on ((if exactly (codes "-p") w then process else []) ++ ((if t then orphan else []) ++ [])) column (λ gs. read_from gs v.column v.words)) [
      | true ↦ λ e. sym (read_by-one (exactly (codes "1") ∷ []) (λ vs. None) v)
          ∙ ap (λ t. going_on ((if t then process else []) ++ (orphan ++ [])) column (λ gs. read_from gs v.column v.words)) (sym (apart_texts (codes "-O") (codes "-p") w refl e))
      | false ↦ λ e. sym (read_each-map (λ p. Some p) process_tests (λ vs. number_of (word_at vs 1)) u) ∙ sym (read_by-one process_tests whole u)
    ] refl

-- ---- verbs

-- A verb of a lockspace.
lockspace_verb : (g : Layout) (verb : List ℕ) (make : LockspaceArg → Command) (u : Unread) → next_passes (exactly verb) u ≡ true
    → forms_behind verb (forms g) ≡ record { words = exactly (codes "-s") ∷ is_lockspace_word g ∷ []; make = λ ws. make (lockspace_of_word (word_at ws 1)) } ∷ []
    → read_by (forms g) u ≡ (lockspace_behind g (past_word u) >>= λ a. Ok (make a))
lockspace_verb g verb make u next is =
    read_by-verb (forms g) (exactly (codes "-s") ∷ is_lockspace_word g ∷ []) (λ ws. make (lockspace_of_word (word_at ws 1))) u verb next is
    ∙ read_each-map make (exactly (codes "-s") ∷ is_lockspace_word g ∷ []) (λ ws. lockspace_of_word (word_at ws 1)) (past_word u)

pub add_lockspace_verb : (g : Layout) (u : Unread) → next_passes (exactly (codes "add_lockspace")) u ≡ true → read_by (forms g) u ≡ (lockspace_behind g (past_word u) >>= λ a. Ok (AddLockspace a))
unfolding forms
add_lockspace_verb g u next = lockspace_verb g (codes "add_lockspace") (λ a. AddLockspace a) u next refl

pub rem_lockspace_verb : (g : Layout) (u : Unread) → next_passes (exactly (codes "rem_lockspace")) u ≡ true → read_by (forms g) u ≡ (lockspace_behind g (past_word u) >>= λ a. Ok (RemLockspace a))
unfolding forms
rem_lockspace_verb g u next = lockspace_verb g (codes "rem_lockspace") (λ a. RemLockspace a) u next refl

pub inq_lockspace_verb : (g : Layout) (u : Unread) → next_passes (exactly (codes "inq_lockspace")) u ≡ true → read_by (forms g) u ≡ (lockspace_behind g (past_word u) >>= λ a. Ok (InqLockspace a))
unfolding forms
inq_lockspace_verb g u next = lockspace_verb g (codes "inq_lockspace") (λ a. InqLockspace a) u next refl

pub host_status_verb : (g : Layout) (u : Unread) → next_passes (exactly (codes "host_status")) u ≡ true → read_by (forms g) u ≡ (lockspace_behind g (past_word u) >>= λ a. Ok (HostStatus a))
unfolding forms
host_status_verb g u next = lockspace_verb g (codes "host_status") (λ a. HostStatus a) u next refl

-- A verb of a resource and a process.
process_verb : (g : Layout) (verb : List ℕ) (make : ResourceArg → ℕ → Command) (u : Unread) → next_passes (exactly verb) u ≡ true
    → forms_behind verb (forms g)
    ≡ record { words = exactly (codes "-r") ∷ is_resource_word g ∷ process_tests; make = λ ws. make (resource_of_word (word_at ws 1)) (number_of (word_at ws 3)) } ∷ []
    → read_by (forms g) u ≡ for_process g make (past_word u)
process_verb g verb make u next is =
    let whole : List (List ℕ) → Command = (λ ws. make (resource_of_word (word_at ws 1)) (number_of (word_at ws 3))) in
    read_by-verb (forms g) (exactly (codes "-r") ∷ is_resource_word g ∷ process_tests) whole u verb next is
    ∙ sym (one_form (is_resource_word g) resource_of_word process_tests (λ ws. number_of (word_at ws 1)) make whole (past_word u) (λ f w ws. refl))

-- The verb of who releases.
abbrev release_forms : List (Form Command)
release_forms =
    record { words = process_tests; make = λ ws. Release (resource_of_word (word_at ws 1)) (number_of (word_at ws 3)) }
    ∷ record { words = option_words (codes "-O"); make = λ ws. ReleaseOrphan (resource_of_word (word_at ws 1)) } ∷ []

pub release_verb : (g : Layout) (u : Unread) → next_passes (exactly (codes "release")) u ≡ true → read_by (forms g) u ≡ release_read g (past_word u)
unfolding forms
release_verb g u next =
    read_by-verbs (forms g) (map (behind_test (exactly (codes "-r"))) (map (behind_test (is_resource_word g)) release_forms)) u (codes "release") next refl
    ∙ sym (one_kind (codes "-r") (is_resource_word g) resource_of_word (λ r. releaser_behind) releasing release_forms (past_word u) refl
    (λ f w v h. made_behind (resource_of_word w) releaser_behind releasing releaser_forms v (releaser_from v.column v.words)))

pub get_lvb_verb : (g : Layout) (u : Unread) → next_passes (exactly (codes "get_lvb")) u ≡ true → read_by (forms g) u ≡ for_process g (λ r p. GetLvb r p) (past_word u)
unfolding forms
get_lvb_verb g u next = process_verb g (codes "get_lvb") (λ r p. GetLvb r p) u next refl

-- The verb of a value.
pub set_lvb_verb : (g : Layout) (u : Unread) → next_passes (exactly (codes "set_lvb")) u ≡ true → read_by (forms g) u ≡ value_read g (past_word u)
unfolding forms
set_lvb_verb g u next =
    let whole : List (List ℕ) → Command = (λ ws. SetLvb (resource_of_word (word_at ws 1)) (number_of (word_at ws 3)) (hex_bytes (word_at ws 5))) in
    read_by-verb (forms g) (exactly (codes "-r") ∷ is_resource_word g ∷ value_tests) whole u (codes "set_lvb") next refl
    ∙ sym (one_form (is_resource_word g) resource_of_word value_tests (λ ws. with_value (number_of (word_at ws 1)) (hex_bytes (word_at ws 3))) (λ r v. SetLvb r v.0 v.1)
    whole (past_word u) (λ f w ws. refl))

-- The verb alone.
pub status_verb : (g : Layout) (u : Unread) → next_passes (exactly (codes "status")) u ≡ true → read_by (forms g) u ≡ (at_end (past_word u) >>= λ _. Ok Status)
unfolding forms
status_verb g u next = read_by-verb (forms g) [] (λ ws. Status) u (codes "status") next refl

-- A word of four parts has not five.
four_or_five : (n : ℕ) (a b c : Bool) → (eqb n 4 && a) ≡ true → (eqb n 5 && b && c) ≡ false
four_or_five n a b c h = let four : n ≡ 4 = eqb-true n 4 (and_true (eqb n 4) a h).0 in rw four refl

-- So a resource's word names one mode.
pub one_mode : (g : Layout) (w : List ℕ) → is_resource_word g w ≡ true → is_shared_word g w ≡ false
one_mode g w h = four_or_five (length (pieces 58 w)) (is_resource_front g (pieces 58 w)) (is_resource_front g (pieces 58 w)) (bytes_eq (word_at (pieces 58 w) 4) (codes "SH")) h

pub not_exclusive : (g : Layout) (w : List ℕ) → is_shared_word g w ≡ true → is_resource_word g w ≡ false
not_exclusive g w h = is_false (is_resource_word g w) (λ e. not_both (is_shared_word g w) h (one_mode g w e))

-- A verb of a resource in either mode. Its forms are told by what stands behind the resource's word.
moded_verb : {B : Type 0} (g : Layout) (verb : List ℕ) (behind : Unread → Result B ℕ) (tails : List (Form B)) (make : ResourceArg → Bool → B → Command)
    (fs : Bool → List (Form Command)) (u : Unread) → next_passes (exactly verb) u ≡ true → ((v : Unread) → behind v ≡ read_by tails v)
    → ((t : Bool) → is_empty (fs t) ≡ false)
    → forms_behind verb (forms g)
    ≡ map (behind_test (exactly (codes "-r"))) (map (behind_test (is_resource_word g)) (fs false) ++ map (behind_test (is_shared_word g)) (fs true))
    → ((f w : List ℕ) (t : Bool) → map (behind_word w) (map (behind_word f) (fs t)) ≡ map (form_with (make (resource_of_word w) t)) tails)
    → read_by (forms g) u ≡ with_resource (is_moded_word g) (moded_of_word g) (λ m. behind) (λ m b. make m.0 m.1 b) (past_word u)
moded_verb {B} g verb behind tails make fs u next reads some is made =
    let all : List (Form Command) = map (behind_test (is_resource_word g)) (fs false) ++ map (behind_test (is_shared_word g)) (fs true) in
    let any : is_empty all ≡ false = some_before _ (map (behind_test (is_shared_word g)) (fs true)) (map_some (behind_test (is_resource_word g)) (fs false) (some false)) in
    let mode : (f w : List ℕ) (v : Unread) (t : Bool) → t ≡ not (is_resource_word g w)
    → (behind v >>= λ b. Ok (make (resource_of_word w) (not (is_resource_word g w)) b)) ≡ read_by (map (behind_word w) (map (behind_word f) (fs t))) v =
    (λ f w v t e. ap (λ s. behind v >>= λ b. Ok (make (resource_of_word w) s b)) (sym e)
    ∙ made_behind (resource_of_word w) behind (λ r b. make r t b) tails v (reads v) ∙ ap (λ gs. read_by gs v) (sym (made f w t))) in
    read_by-verbs (forms g) _ u verb next is
    ∙ some_go_on (map (behind_test (exactly (codes "-r"))) all) u (map_some (behind_test (exactly (codes "-r"))) all any)
    ∙ sym (two_kinds (codes "-r") (is_resource_word g) (is_shared_word g) (moded_of_word g) (λ m. behind) (λ m b. make m.0 m.1 b) (fs false) (fs true) (past_word u)
    (some false) (some true) (one_mode g) (λ f w v h. mode f w v false (sym (ap not h))) (λ f w v h. mode f w v true (sym (ap not (not_exclusive g w h)))))

-- The forms of an acquire, by their options.
abbrev acquire_form_of : Bool → Form (Bool × Bool) → Form Command
acquire_form_of shared f =
    record {
      words = exactly (codes "-p") ∷ is_process_word ∷ f.words;
      make = λ ws. acquiring (resource_of_word (word_at ws 1)) shared (held_by (number_of (word_at ws 3)) (f.make ws));
    }

pub acquire_verb : (g : Layout) (u : Unread) → next_passes (exactly (codes "acquire")) u ≡ true → read_by (forms g) u ≡ acquire_read g (past_word u)
unfolding forms
acquire_verb g u next =
    moded_verb g (codes "acquire") holder_behind holder_forms acquiring (λ t. map (acquire_form_of t) option_forms) u next holder_is (λ t. refl) refl (λ f w t. refl)

pub convert_verb : (g : Layout) (u : Unread) → next_passes (exactly (codes "convert")) u ≡ true → read_by (forms g) u ≡ convert_read g (past_word u)
unfolding forms
convert_verb g u next =
    moded_verb g (codes "convert") process_behind (record { words = process_tests; make = λ ws. number_of (word_at ws 1) } ∷ []) (λ r m p. Convert r m p)
    (λ t. record { words = process_tests; make = λ ws. Convert (resource_of_word (word_at ws 1)) t (number_of (word_at ws 3)) } ∷ []) u next
    (λ v. sym (read_by-one process_tests (λ ws. number_of (word_at ws 1)) v)) (λ t. refl) refl (λ f w t. refl)

pub program_verb : (g : Layout) (u : Unread) → next_passes (exactly (codes "command")) u ≡ true → read_by (forms g) u ≡ program_read g (past_word u)
unfolding forms
program_verb g u next =
    moded_verb g (codes "command") program_behind (record { words = program_tests; make = λ ws. word_at ws 1 } ∷ []) (λ r m path. RunProgram r m path)
    (λ t. record { words = program_tests; make = λ ws. RunProgram (resource_of_word (word_at ws 1)) t (word_at ws 3) } ∷ []) u next
    (λ v. sym (read_by-one program_tests (λ ws. word_at ws 1) v)) (λ t. refl) refl (λ f w t. refl)

-- The verb of a kill program.
pub set_killpath_verb : (g : Layout) (u : Unread) → next_passes (exactly (codes "set_killpath")) u ≡ true → read_by (forms g) u ≡ killpath_read (past_word u)
unfolding forms
set_killpath_verb g u next = read_by-verb (forms g) killpath_tests (λ ws. SetKillpath (number_of (word_at ws 1)) (word_at ws 3)) u (codes "set_killpath") next refl

-- The lver 0 is not asked for.
and_false : (front text : Bool) → (front && (text && false)) ≡ false
and_false true true = refl
and_false true false = refl
and_false false text = refl

zero_or_more : (front text : Bool) (n : ℕ) → (front && (text && eqb n 0)) ≡ true → (front && (text && is_in_range 1 (2 ^ 63 - 1) n)) ≡ false
zero_or_more front text n h =
    let zero : n ≡ 0 = eqb-true n 0 (and_true text (eqb n 0) (and_true front _ h).1).1 in
    rw zero (and_false front text)

pub one_lver : (g : Layout) (w : List ℕ) → is_clearing_word g w ≡ true → is_asking_word g w ≡ false
one_lver g w h =
    let ps : List (List ℕ) = pieces 58 w in
    zero_or_more (eqb (length ps) 5 && is_resource_front g ps) (is_number_text (word_at ps 4)) (number_of (word_at ps 4)) h

-- The lver of a request that clears, and of one that asks.
pub clearing_lver : (g : Layout) (w : List ℕ) → is_clearing_word g w ≡ true → asked_of_word w ≡ 0
clearing_lver g w h =
    let ps : List (List ℕ) = pieces 58 w in
    eqb-true _ 0 (and_true (is_number_text (word_at ps 4)) _ (and_true (eqb (length ps) 5 && is_resource_front g ps) _ h).1).1

some_lver : (n : ℕ) → is_in_range 1 (2 ^ 63 - 1) n ≡ true → eqb n 0 ≡ false
some_lver n h = grind (arith, nat_tests)

pub asking_lver : (g : Layout) (w : List ℕ) → is_asking_word g w ≡ true → (asked_of_word w == 0) ≡ false
asking_lver g w h =
    let ps : List (List ℕ) = pieces 58 w in
    some_lver (asked_of_word w) (and_true (is_number_text (word_at ps 4)) _ (and_true (eqb (length ps) 5 && is_resource_front g ps) _ h).1).1

-- The force that goes with either.
clearing_force : (r : ResourceArg) (lver : ℕ) (v : Unread) → lver ≡ 0
    → (force_with (lver == 0) v >>= λ b. Ok (Request r lver b)) ≡ read_each clearing_tests (λ ws. Request r 0 0) v
clearing_force r lver v e = rw e (sym (read_each-map (λ b. Request r 0 b) clearing_tests (λ ws. 0) v))

asking_force : (r : ResourceArg) (lver : ℕ) (v : Unread) → (lver == 0) ≡ false
    → (force_with (lver == 0) v >>= λ b. Ok (Request r lver b)) ≡ read_each asking_tests (λ ws. Request r lver (number_of (word_at ws 1))) v
asking_force r lver v e =
    ap (λ t. force_with t v >>= λ b. Ok (Request r lver b)) e ∙ sym (read_each-map (λ b. Request r lver b) asking_tests (λ ws. number_of (word_at ws 1)) v)

pub request_verb : (g : Layout) (u : Unread) → next_passes (exactly (codes "request")) u ≡ true → read_by (forms g) u ≡ request_read g (past_word u)
unfolding forms
request_verb g u next =
    let clears : List (List ℕ) → Command = (λ ws. Request (resource_of_word (word_at ws 1)) 0 0) in
    let asks : List (List ℕ) → Command = (λ ws. Request (resource_of_word (word_at ws 1)) (asked_of_word (word_at ws 1)) (number_of (word_at ws 3))) in
    read_by-verbs (forms g) _ u (codes "request") next refl
    ∙ sym (two_kinds (codes "-r") (is_clearing_word g) (is_asking_word g) request_of_word (λ m. force_with (m.1 == 0)) (λ m force. Request m.0 m.1 force)
    (record { words = clearing_tests; make = clears } ∷ []) (record { words = asking_tests; make = asks } ∷ []) (past_word u) refl refl (one_lver g)
    (λ f w v h. clearing_force (resource_of_word w) (asked_of_word w) v (clearing_lver g w h) ∙ sym (read_by-one clearing_tests (λ ws. clears (f ∷ w ∷ ws)) v))
    (λ f w v h. asking_force (resource_of_word w) (asked_of_word w) v (asking_lver g w h) ∙ sym (read_by-one asking_tests (λ ws. asks (f ∷ w ∷ ws)) v)))

-- No verb of the first forms is next.
pub no_first_verb : (g : Layout) (u : Unread) → next_passes (exactly (codes "acquire")) u ≡ false → next_passes (exactly (codes "add_lockspace")) u ≡ false
    → next_passes (exactly (codes "rem_lockspace")) u ≡ false → next_passes (exactly (codes "inq_lockspace")) u ≡ false
    → next_passes (exactly (codes "host_status")) u ≡ false → NoneFits u (take 12 (forms g))
unfolding forms
no_first_verb g u acquire add rem inq host =
    let a = acquire in (a, (a, (a, (a, (a, (a, (a, (a, (add, (rem, (inq, (host, tt))))))))))))

-- No verb of the next forms.
pub no_middle_verb : (g : Layout) (u : Unread) → next_passes (exactly (codes "release")) u ≡ false → next_passes (exactly (codes "convert")) u ≡ false
    → next_passes (exactly (codes "command")) u ≡ false → next_passes (exactly (codes "request")) u ≡ false → NoneFits u (take 8 (drop 12 (forms g)))
unfolding forms
no_middle_verb g u release convert run request = (release, (release, (convert, (convert, (run, (run, (request, (request, tt))))))))

-- Forms that do not fit, one list behind another.
none_fits-append : {A : Type 0} (u : Unread) (fs gs : List (Form A)) → NoneFits u fs → NoneFits u gs → NoneFits u (fs ++ gs)
none_fits-append u [] gs front rest = rest
none_fits-append u (f ∷ fs) gs front rest = (front.0, none_fits-append u fs gs front.1 rest)

-- No verb is next.
pub no_verb : (g : Layout) (u : Unread) → NoneFits u (take 12 (forms g)) → NoneFits u (take 8 (drop 12 (forms g)))
    → next_passes (exactly (codes "get_lvb")) u ≡ false → next_passes (exactly (codes "set_lvb")) u ≡ false
    → next_passes (exactly (codes "set_killpath")) u ≡ false → next_passes (exactly (codes "status")) u ≡ false
    → read_by (forms g) u ≡ Err u.column
unfolding forms
no_verb g u front middle get set killpath status =
    let last : NoneFits u (drop 20 (forms g)) = (get, (set, (killpath, (status, tt)))) in
    read_by-other (forms g) u (none_fits-append u (take 12 (forms g)) (take 8 (drop 12 (forms g)) ++ drop 20 (forms g)) front (none_fits-append u (take 8 (drop 12 (forms g))) (drop 20 (forms g)) middle last))

-- The whole text.
same_answer : (o : Option Command) (column : ℕ) → ok_or o column ≡ command_or o column
same_answer None column = refl
same_answer (Some c) column = refl

pub read_whole : (g : Layout) (text : List ℕ) → read_by (forms g) (unread 32 text) ≡ command_in (forms g) text
read_whole g text = read_from-is (forms g) (words_of text) ∙ same_answer (made_by (forms g) (words_of text)) (bad_column (forms g) (words_of text))

-- ---- verbs, tried one after another

-- A verb that is not next leaves the reader where it stands.
pub stays : (t : Bool) (u v : Unread) → v ≡ (if t then past_word u else u) → t ≡ false → v ≡ u
stays true u v left failed = absurd cc
stays false u v left failed = left

goes : (t : Bool) (u v : Unread) → v ≡ (if t then past_word u else u) → t ≡ true → v ≡ past_word u
goes true u v left taken = left
goes false u v left taken = absurd cc

-- It is not next where the verbs were begun with.
pub fails : (p : List ℕ → Bool) (t : Bool) (u v : Unread) → v ≡ u → t ≡ next_passes p v → t ≡ false → next_passes p u ≡ false
fails p t u v at passes failed = ap (next_passes p) (sym at) ∙ sym passes ∙ failed

-- Behind a verb that is next, what is read is what its forms make of all words.
pub read_behind : (p : List ℕ → Bool) (whole read : Unread → Result Command ℕ) → ((u : Unread) → next_passes p u ≡ true → whole u ≡ read (past_word u))
    → (t : Bool) (u v w : Unread) (r : Result Command ℕ) → v ≡ u → t ≡ next_passes p v → w ≡ (if t then past_word v else v) → t ≡ true → r ≡ read w → r ≡ whole u
read_behind p whole read law t u v w r at passes left taken reads =
    reads ∙ ap read (goes t v w left taken) ∙ sym (law v (sym passes ∙ taken)) ∙ ap whole at

-- What reading a whole text uses.
pub ruleset whole = (read_whole)
