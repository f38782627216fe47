-- What is read behind a verb is what the verb's forms make, and fails at the same column.
use Rattle.sl_command.proofs.SharedTests.{behind_test, behind_word, map_some, next_as-value, read_by-shared, some_go_on}
use Rattle.sl_locks.specs.Lines.{VolumeName, deactivate_read, ended_as, flag_read, global_ways, group_ways, id_read, id_tests, later_forms, volume_named, volume_ways, ways_read, with_id}
use Rattle.sl_run.specs.LockNames.{global_lock, group_lock, is_group_name}
use Rattle.sl_run.specs.LvmLines.{Deactivates, Gives, Gives_writing, Informs, LvmLine, Starts, Stops, Takes, Takes_comparing, is_area_word, is_volume_word, line_or, lvm_forms, lvm_line_in, volume_of}
use Rattle.sl_text.proofs.FormLaws.{read_by-other, read_by-verb, read_by-verbs, read_each-map, read_from-is}
use Rattle.sl_text.specs.Forms.{Form, bad_column, exactly, made_by, word_at, words_of}
use Rattle.sl_text.specs.Numbers.{number_of}
use Rattle.sl_text.specs.Walks.{Unread, at_end, column_behind, forms_behind, going_on, next_as, next_passes, past_word, read_by, read_from, unread}
use Rattle.sl_trace.specs.declared.effects.Mode.TheVariants.{Exclusive, Shared}
use Rattle.sl_words.specs.Results.{◌>>=◌}
use Rattle.sl_words.specs.Words.{is_empty}
use Rattle.std.proofs.Common.{Bool, List, [], ap, false, map, refl, sym, true, ℕ, ◌≡◌, ◌∙◌, ◌∷◌}
use Rattle.std.specs.Option.{ok_or}
use Rattle.std.specs.Prelude.{None, Ok, Err, Option, Result, Some, codes, drop, if◌then◌else◌, ◌++◌}

-- ---- ways behind a name and `-m`

ways_verb : {A : Type 0} (all : List (Form LvmLine)) (verb : List ℕ) (passes : List ℕ → Bool) (value : List ℕ → A) (ways : A → List (Form LvmLine)) (fs : List (Form LvmLine)) (u : Unread)
    → next_passes (exactly verb) u ≡ true → is_empty fs ≡ false
    → forms_behind verb all ≡ map (behind_test passes) (map (behind_test (exactly (codes "-m"))) fs)
    → ((w : List ℕ) → map (behind_word w) (map (behind_test (exactly (codes "-m"))) fs) ≡ map (behind_test (exactly (codes "-m"))) (map (behind_word w) fs))
    → ((w f : List ℕ) → map (behind_word f) (map (behind_word w) fs) ≡ ways (value w))
    → read_by all u ≡ ways_read passes value ways (past_word u)
ways_verb {A} all verb passes value ways fs u next some is tests made =
    let v : Unread = past_word u in
    let flag : List ℕ → Bool = exactly (codes "-m") in
    let gs : List (Form LvmLine) = map (behind_test flag) fs in
    let more : is_empty gs ≡ false = map_some (behind_test flag) fs some in
    let behind : (w : List ℕ) → read_by (map (behind_word w) gs) (past_word v) ≡ (flag_read (codes "-m") (past_word v) >>= λ _. read_by (ways (value w)) (past_word (past_word v))) =
    (λ w. ap (λ hs. read_by hs (past_word v)) (tests w) ∙ read_by-shared flag (map (behind_word w) fs) (past_word v) (map_some (behind_word w) fs some)
    ∙ ap (λ (k : List ℕ → Result LvmLine ℕ). next_as flag (λ f. f) (past_word v) >>= k) (λ i f. read_by (made w f i) (past_word (past_word v)))
    ∙ sym (next_as-value {A = Unit {0}} flag (λ _. tt) (λ _. read_by (ways (value w)) (past_word (past_word v))) (past_word v))) in
    read_by-verbs all _ u verb next is
    ∙ some_go_on (map (behind_test passes) gs) u (map_some (behind_test passes) gs more)
    ∙ read_by-shared passes gs v more
    ∙ ap (λ (k : List ℕ → Result LvmLine ℕ). next_as passes (λ w. w) v >>= k) (λ i w. behind w i)
    ∙ sym (next_as-value passes value (λ a. flag_read (codes "-m") (past_word v) >>= λ _. read_by (ways a) (past_word (past_word v))) v)

-- The forms of modes, which know their group by the first word.
abbrev global_forms : List (Form LvmLine)
global_forms =
    record { words = exactly (codes "sh") ∷ []; make = λ ws. Takes (global_lock (word_at ws 0)) Shared }
    ∷ record { words = exactly (codes "ex") ∷ []; make = λ ws. Takes (global_lock (word_at ws 0)) Exclusive }
    ∷ record { words = exactly (codes "un") ∷ []; make = λ ws. Gives (global_lock (word_at ws 0)) } ∷ []

abbrev group_forms : List (Form LvmLine)
group_forms =
    record { words = exactly (codes "sh") ∷ []; make = λ ws. Takes_comparing (group_lock (word_at ws 0)) Shared }
    ∷ record { words = exactly (codes "ex") ∷ []; make = λ ws. Takes_comparing (group_lock (word_at ws 0)) Exclusive }
    ∷ record { words = exactly (codes "un") ∷ []; make = λ ws. Gives (group_lock (word_at ws 0)) }
    ∷ record { words = exactly (codes "un") ∷ exactly (codes "-w") ∷ []; make = λ ws. Gives_writing (group_lock (word_at ws 0)) } ∷ []

abbrev volume_forms : ℕ → List (Form LvmLine)
volume_forms area =
    record {
      words = exactly (codes "sh") ∷ exactly (codes "-a") ∷ is_area_word area ∷ [];
      make = λ ws. Takes (volume_of (word_at ws 0) (word_at ws 4)) Shared;
    }
    ∷ record {
      words = exactly (codes "ex") ∷ exactly (codes "-a") ∷ is_area_word area ∷ [];
      make = λ ws. Takes (volume_of (word_at ws 0) (word_at ws 4)) Exclusive;
    }
    ∷ []

pub global_verb : (area : ℕ) (u : Unread) → next_passes (exactly (codes "lock_gl")) u ≡ true
    → read_by (lvm_forms area) u ≡ ways_read is_group_name (λ w. w) global_ways (past_word u)
unfolding lvm_forms
global_verb area u next = ways_verb (lvm_forms area) (codes "lock_gl") is_group_name (λ w. w) global_ways global_forms u next refl refl (λ w. refl) (λ w f. refl)

pub group_verb : (area : ℕ) (u : Unread) → next_passes (exactly (codes "lock_vg")) u ≡ true
    → read_by (lvm_forms area) u ≡ ways_read is_group_name (λ w. w) group_ways (past_word u)
unfolding lvm_forms
group_verb area u next = ways_verb (lvm_forms area) (codes "lock_vg") is_group_name (λ w. w) group_ways group_forms u next refl refl (λ w. refl) (λ w f. refl)

pub activate_verb : (area : ℕ) (u : Unread) → next_passes (exactly (codes "activate")) u ≡ true
    → read_by (later_forms area) u ≡ ways_read is_volume_word volume_named (volume_ways area) (past_word u)
unfolding later_forms lvm_forms
activate_verb area u next =
    ways_verb (later_forms area) (codes "activate") is_volume_word volume_named (volume_ways area) (volume_forms area) u next refl refl (λ w. refl) (λ w f. refl)

-- ---- other verbs

pub start_verb : (area : ℕ) (u : Unread) → next_passes (exactly (codes "lock_start")) u ≡ true
    → read_by (lvm_forms area) u ≡ (id_read (past_word u) >>= λ p. Ok (Starts p.0 p.1))
unfolding lvm_forms
start_verb area u next =
    read_by-verb (lvm_forms area) id_tests (λ ws. Starts (word_at ws 0) (number_of (word_at ws 2))) u (codes "lock_start") next refl
    ∙ read_each-map (λ (p : List ℕ × ℕ). Starts p.0 p.1) id_tests (λ ws. with_id (word_at ws 0) (number_of (word_at ws 2))) (past_word u)

pub stop_verb : (area : ℕ) (u : Unread) → next_passes (exactly (codes "lock_stop")) u ≡ true
    → read_by (lvm_forms area) u ≡ (id_read (past_word u) >>= λ p. Ok (Stops p.0 p.1))
unfolding lvm_forms
stop_verb area u next =
    read_by-verb (lvm_forms area) id_tests (λ ws. Stops (word_at ws 0) (number_of (word_at ws 2))) u (codes "lock_stop") next refl
    ∙ read_each-map (λ (p : List ℕ × ℕ). Stops p.0 p.1) id_tests (λ ws. with_id (word_at ws 0) (number_of (word_at ws 2))) (past_word u)

pub deactivate_verb : (area : ℕ) (u : Unread) → next_passes (exactly (codes "deactivate")) u ≡ true → read_by (later_forms area) u ≡ deactivate_read (past_word u)
unfolding later_forms lvm_forms
deactivate_verb area u next =
    read_by-verb (later_forms area) (is_volume_word ∷ []) (λ ws. Deactivates (volume_named (word_at ws 0)).0 (volume_named (word_at ws 0)).1) u (codes "deactivate") next refl
    ∙ sym (next_as-value is_volume_word volume_named (λ (v : VolumeName). ended_as (Deactivates v.0 v.1) (past_word (past_word u))) (past_word u))

pub info_verb : (area : ℕ) (u : Unread) → next_passes (exactly (codes "info")) u ≡ true → read_by (later_forms area) u ≡ (at_end (past_word u) >>= λ _. Ok Informs)
unfolding later_forms lvm_forms
info_verb area u next = read_by-verb (later_forms area) [] (λ ws. Informs) u (codes "info") next refl

pub no_verb : (area : ℕ) (u : Unread) → next_passes (exactly (codes "activate")) u ≡ false → next_passes (exactly (codes "deactivate")) u ≡ false
    → next_passes (exactly (codes "info")) u ≡ false → read_by (later_forms area) u ≡ Err u.column
unfolding later_forms lvm_forms
no_verb area u act deact info = read_by-other (later_forms area) u (act, (act, (deact, (info, tt))))

-- ---- forms that do not go on behind the next word

passed_over : {A : Type 0} (p : List ℕ → Bool) (ps : List (List ℕ → Bool)) (make : List (List ℕ) → A) (fs : List (Form A)) (column : ℕ) (ws : List (List ℕ))
    → next_passes p (record { column = column; words = ws }) ≡ false → read_from (record { words = p ∷ ps; make = make } ∷ fs) column ws ≡ read_from fs column ws
passed_over p ps make fs column [] fails = refl
passed_over p ps make fs column (w ∷ ws) fails =
    ap (λ (t : Bool). going_on ((if t then record { words = ps; make = λ vs. make (w ∷ vs) } ∷ [] else []) ++ forms_behind w fs) column (λ gs. read_from gs (column_behind column (w ∷ ws)) ws)) fails

over : {A : Type 0} (p : List ℕ → Bool) (ps : List (List ℕ → Bool)) (make : List (List ℕ) → A) (fs : List (Form A)) (u : Unread) → next_passes p u ≡ false
    → read_by (record { words = p ∷ ps; make = make } ∷ fs) u ≡ read_by fs u
over p ps make fs u fails = passed_over p ps make fs u.column u.words fails

pub later_verb : (area : ℕ) (u : Unread) → next_passes (exactly (codes "lock_start")) u ≡ false → next_passes (exactly (codes "lock_stop")) u ≡ false
    → next_passes (exactly (codes "lock_gl")) u ≡ false → next_passes (exactly (codes "lock_vg")) u ≡ false → read_by (lvm_forms area) u ≡ read_by (later_forms area) u
unfolding later_forms lvm_forms
later_verb area u start stop gl vg =
    over _ _ _ (drop 1 (lvm_forms area)) u start
    ∙ over _ _ _ (drop 2 (lvm_forms area)) u stop
    ∙ over _ _ _ (drop 3 (lvm_forms area)) u gl
    ∙ over _ _ _ (drop 4 (lvm_forms area)) u gl
    ∙ over _ _ _ (drop 5 (lvm_forms area)) u gl
    ∙ over _ _ _ (drop 6 (lvm_forms area)) u vg
    ∙ over _ _ _ (drop 7 (lvm_forms area)) u vg
    ∙ over _ _ _ (drop 8 (lvm_forms area)) u vg
    ∙ over _ _ _ (drop 9 (lvm_forms area)) u vg

-- The whole text.
same_answer : (o : Option LvmLine) (column : ℕ) → ok_or o column ≡ line_or o column
same_answer None column = refl
same_answer (Some l) column = refl

pub read_whole : (area : ℕ) (text : List ℕ) → read_by (lvm_forms area) (unread 32 text) ≡ lvm_line_in area text
read_whole area text =
    read_from-is (lvm_forms area) (words_of text) ∙ same_answer (made_by (lvm_forms area) (words_of text)) (bad_column (lvm_forms area) (words_of text))

pub ruleset whole = (read_whole)
