-- The lines of a header, one behind the other, and what they are read as.
use Rattle.sl_play.proofs.EndsFinish.{bytes_joined}
use Rattle.sl_report.specs.Languages.{whole_language}
use Rattle.sl_report.specs.Schedules.{HeaderReading, Header_read, Header_refused, NumberedLine, numbered_lines, read_header}
use Rattle.sl_run.specs.declared.event.Refusal.{Refusal}
use Rattle.sl_run.specs.declared.header.Header.{Header}
use Rattle.sl_story.proofs.StoriesBegin.{are_stories}
use Rattle.sl_story.specs.HeaderReadings.{header_reading}
use Rattle.sl_story.specs.StoryHeaders.{session_line, story_header, story_lines}
use Rattle.sl_text.specs.Forms.{as_bytes}
use Rattle.std.proofs.Common.{Bool, List, [], ap, arith, length, map, sym, true, ℕ, ◌*◌, ◌++◌, ◌+◌, ◌∙◌, ◌∷◌, ◌≡◌, ◌≤◌}
use Rattle.std.proofs.lemmas.Bool.Decides.{nat_tests}
use Rattle.std.proofs.lemmas.List.FromFn.{map-range_with_len_more}
use Rattle.std.proofs.lemmas.List.{append-nil, append_assoc}
use Rattle.std.specs.List.{range_with_len}
use Rattle.std.specs.Prelude.{Err, Ok, Result, codes, nat_le}

-- The first lines, told as one text.
pub numbers_text : (text v w hosts ids : List ℕ)
    → text ≡ v ++ (10 ∷ (codes "time 100 600 100 10 300" ++ (10 ∷ (codes "hosts " ++ (hosts ++ (10 ∷ (codes "ids " ++ (ids ++ (10 ∷ []))))))))) → v ≡ w
    → text ≡ as_bytes (w ∷ codes "time 100 600 100 10 300" ∷ (codes "hosts " ++ hosts) ∷ (codes "ids " ++ ids) ∷ [])
numbers_text text v w hosts ids is same =
    is ∙ ap (λ x. x ++ (10 ∷ (codes "time 100 600 100 10 300" ++ (10 ∷ (codes "hosts " ++ (hosts ++ (10 ∷ (codes "ids " ++ (ids ++ (10 ∷ [])))))))))) same
    ∙ ap (λ r. w ++ (10 ∷ (codes "time 100 600 100 10 300" ++ (10 ∷ (codes "hosts " ++ r)))))
    (ap (λ r. hosts ++ (10 ∷ (codes "ids " ++ r))) (sym (append-nil (ids ++ (10 ∷ []))))
    ∙ sym (append_assoc hosts (10 ∷ []) (codes "ids " ++ ((ids ++ (10 ∷ [])) ++ []))))
    ∙ sym (append_assoc w (10 ∷ []) (codes "time 100 600 100 10 300" ++ (10 ∷ (codes "hosts " ++ ((hosts ++ (10 ∷ [])) ++ (codes "ids " ++ ((ids ++ (10 ∷ [])) ++ [])))))))

next_of : (n : ℕ) → 1 + n ≡ n + 1
next_of n = omega arith

pub one_more_session : (lockspace : List ℕ) (n : ℕ) (out was now : List ℕ) → was ≡ out ++ as_bytes (map (session_line lockspace) (range_with_len 1 n))
    → now ≡ was ++ as_bytes (session_line lockspace (n + 1) ∷ []) → now ≡ out ++ as_bytes (map (session_line lockspace) (range_with_len 1 (n + 1)))
one_more_session lockspace n out was now is pushed =
    let before : List (List ℕ) = map (session_line lockspace) (range_with_len 1 n) in
    let line : List (List ℕ) = session_line lockspace (n + 1) ∷ [] in
    pushed ∙ ap (λ b. b ++ as_bytes line) is ∙ append_assoc out (as_bytes before) (as_bytes line)
    ∙ ap (λ b. out ++ b) (sym (bytes_joined before line) ∙ ap as_bytes (sym (map-range_with_len_more (session_line lockspace) 1 n (n + 1) (next_of n))))

joined_once : (a b : List (List ℕ)) (t u : List ℕ) → t ≡ as_bytes a → u ≡ t ++ as_bytes b → u ≡ as_bytes (a ++ b)
joined_once a b t u is pushed = pushed ∙ ap (λ x. x ++ as_bytes b) is ∙ sym (bytes_joined a b)

pub joined : (a b c d e : List (List ℕ)) (t u v w x y : List ℕ) → t ≡ [] → u ≡ t ++ as_bytes a → v ≡ u ++ as_bytes b → w ≡ v ++ as_bytes c → x ≡ w ++ as_bytes d → y ≡ x ++ as_bytes e
    → y ≡ as_bytes (a ++ b ++ c ++ d ++ e)
joined a b c d e t u v w x y none first second third fourth fifth =
    joined_once (a ++ b ++ c ++ d) e x y
    (joined_once (a ++ b ++ c) d w x (joined_once (a ++ b) c v w (joined_once a b u v (first ∙ ap (λ z. z ++ as_bytes a) none) second) third) fourth) fifth

-- What such a text is read as.
pub read_so : (hosts : ℕ) (paired : Bool) (text : List ℕ) (lines : List NumberedLine) → 1 ≤ hosts → hosts ≤ 16 → text ≡ as_bytes (story_lines hosts paired) → lines ≡ numbered_lines text
    → read_header whole_language [] 1 lines ≡ Header_read (story_header hosts paired) []
read_so hosts paired text lines low high is numbered =
    ap (read_header whole_language [] 1) (numbered ∙ ap numbered_lines is) ∙ (are_stories hosts paired low high).0

pub same_header : (h k : Header) (rest : List NumberedLine) (x : HeaderReading) → Header_read h rest ≡ x → x ≡ Header_read k [] → h ≡ k
same_header h k rest x first second = let both : Header_read h rest ≡ Header_read k [] = first ∙ second in cc

pub never_refused : (number : ℕ) (why : Refusal) (k : Header) (x : HeaderReading) → Header_refused number why ≡ x → x ≡ Header_read k [] → ⊥
never_refused number why k x first second = let both : Header_refused number why ≡ Header_read k [] = first ∙ second in absurd cc

low_of : (n m : ℕ) → nat_le n m ≡ true → n ≤ m
low_of n m h = grind (arith, nat_tests)

pub short_text : (hosts : ℕ) (paired : Bool) (text : List ℕ) → 1 ≤ hosts → hosts ≤ 16 → text ≡ as_bytes (story_lines hosts paired) → length text ≤ 10000
short_text hosts paired text low high is = low_of (length text) 10000 (ap (λ b. nat_le (length b) 10000) is ∙ (are_stories hosts paired low high).3)

pub long_text : (hosts : ℕ) (paired : Bool) (text : List ℕ) → 1 ≤ hosts → hosts ≤ 16 → text ≡ as_bytes (story_lines hosts paired) → 17 + 2 * hosts ≤ length text
long_text hosts paired text low high is = low_of (17 + 2 * hosts) (length text) (ap (λ b. nat_le (17 + 2 * hosts) (length b)) is ∙ (are_stories hosts paired low high).4)

pub refused_never : (hosts : ℕ) (paired : Bool) (read : Result Header (ℕ × Refusal)) (e : ℕ × Refusal) (rest lines : List NumberedLine) (text : List ℕ) → 1 ≤ hosts → hosts ≤ 16
    → text ≡ as_bytes (story_lines hosts paired) → lines ≡ numbered_lines text → read ≡ Err e → header_reading read rest ≡ read_header whole_language [] 1 lines → ⊥
refused_never hosts paired read e rest lines text low high is numbered failed exact =
    never_refused e.0 e.1 (story_header hosts paired) (read_header whole_language [] 1 lines) (ap (λ r. header_reading r rest) (sym failed) ∙ exact)
    (read_so hosts paired text lines low high is numbered)

pub read_as : (hosts : ℕ) (paired : Bool) (read : Result Header (ℕ × Refusal)) (h : Header) (rest lines : List NumberedLine) (text : List ℕ) → 1 ≤ hosts → hosts ≤ 16
    → text ≡ as_bytes (story_lines hosts paired) → lines ≡ numbered_lines text → read ≡ Ok h → header_reading read rest ≡ read_header whole_language [] 1 lines
    → h ≡ story_header hosts paired
read_as hosts paired read h rest lines text low high is numbered was exact =
    same_header h (story_header hosts paired) rest (read_header whole_language [] 1 lines) (ap (λ r. header_reading r rest) (sym was) ∙ exact)
    (read_so hosts paired text lines low high is numbered)

pub few_lines : (hosts from len : ℕ) (text : List ℕ) → 17 + 2 * hosts ≤ length text → from ≡ hosts → len ≡ length text → 17 + 2 * from ≤ len
few_lines hosts from len text few same long = omega (arith, few, same, long)

pub few_bytes : (len : ℕ) (text : List ℕ) → length text ≤ 10000 → len ≡ length text → len ≤ 1000000000
few_bytes len text short long = omega (arith, short, long)
