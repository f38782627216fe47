-- Pictures that are well formed, by a small grammar: an element has attributes whose values can't end early, and a text between tags has no byte
-- that is taken for a tag, and none for an entity but in one of three.
use Rattle.sl_drawing.specs.Elements.{Element, head_text, picture_text}
use Rattle.std.specs.List.{list_all}
use Rattle.std.specs.Prelude.{Bool, List, codes, decimal, not, true, [], ℕ, ◌&&◌, ◌++◌, ◌==◌, ◌∷◌, ◌≡◌, ◌⊎◌}

-- A byte that stands for itself between tags, and in a value.
abbrev pub is_plain : ℕ → Bool
is_plain b = not (b == 60) && not (b == 38)

abbrev pub is_value : List ℕ → Bool
is_value bs = list_all (λ b. is_plain b && not (b == 39)) bs

-- A text between tags.
pub data IsEscaped : List ℕ → Type 0 where
  Nothing : IsEscaped []
  Plain : (b : ℕ) (rest : List ℕ) → is_plain b ≡ true → IsEscaped rest → IsEscaped (b ∷ rest)
  Entity : (e rest : List ℕ) → (e ≡ codes "&amp;") ⊎ (e ≡ codes "&lt;") ⊎ (e ≡ codes "&gt;") → IsEscaped rest → IsEscaped (e ++ rest)

-- Attributes: a space, a name, and a value between quotes each, which is a text or a number.
pub data AreAttributes : List ℕ → Type 0 where
  No_more : AreAttributes []
  More : (name front value rest : List ℕ) → front ≡ codes " " ++ name ++ codes "='" → is_value name ≡ true → is_value value ≡ true → AreAttributes rest
      → AreAttributes (front ++ value ++ codes "'" ++ rest)
  Number : (name front : List ℕ) (n : ℕ) (rest : List ℕ) → front ≡ codes " " ++ name ++ codes "='" → is_value name ≡ true → AreAttributes rest
      → AreAttributes (front ++ decimal n ++ codes "'" ++ rest)
  Numbers : (name front : List ℕ) (n m : ℕ) (rest : List ℕ) → front ≡ codes " " ++ name ++ codes "='0 0 " → is_value name ≡ true → AreAttributes rest
      → AreAttributes (front ++ decimal n ++ codes " " ++ decimal m ++ codes "'" ++ rest)

-- A rectangle, one with a title, a label, a sign.
pub data IsElement : List ℕ → Type 0 where
  Empty : (attributes : List ℕ) → AreAttributes attributes → IsElement (codes "<rect" ++ attributes ++ codes "/>\n")
  Titled : (attributes title : List ℕ) → AreAttributes attributes → IsEscaped title → IsElement (codes "<rect" ++ attributes ++ (codes "><title>" ++ title ++ codes "</title></rect>\n"))
  Label : (attributes text : List ℕ) → AreAttributes attributes → IsEscaped text → IsElement (codes "<text" ++ attributes ++ (codes ">" ++ text ++ codes "</text>\n"))
  Sign : (attributes : List ℕ) → AreAttributes attributes → IsElement (codes "<use" ++ attributes ++ codes "/>\n")

pub data AreElements : List ℕ → Type 0 where
  No_element : AreElements []
  One_more : (e rest : List ℕ) → IsElement e → AreElements rest → AreElements (e ++ rest)

-- A whole picture: a front, the head that is the same in each, elements at its top, and a picture within it that has elements too; a tail each.
pub record IsPicture (text : List ℕ) : Type 0 where
  pub attributes : List ℕ
  pub above : List ℕ
  pub within : List ℕ
  pub elements : List ℕ
  pub are : AreAttributes attributes
  pub each_above : AreElements above
  pub are_within : AreAttributes within
  pub each : AreElements elements
  pub text_is : text ≡ (codes "<svg" ++ attributes ++ codes ">\n")
      ++ (head_text ++ above ++ ((codes "<svg" ++ within ++ codes ">\n") ++ (elements ++ (codes "</svg>\n" ++ codes "</svg>\n"))))

-- So is each, whatever its elements and whatever bytes their texts have.
abbrev pub PicturesAreWellFormed : Type 0
PicturesAreWellFormed = (width height : ℕ) (above : List Element) (y : ℕ) (es : List Element) → IsPicture (picture_text width height above y es)
