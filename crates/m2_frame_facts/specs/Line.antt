-- The line of an item of a stream: the place of its first byte in the file, its tag's name, and what it says.
use Rattle.std.specs.Prelude.{ℕ, List, [], ◌∷◌, ◌++◌, codes}
use Rattle.std.specs.Fmt.{decimal}
use Rattle.m2_frame.specs.Reading.{Item, whole, dropped}
use Rattle.m2_frame.specs.Tags.{name_in}
use Rattle.m2_control.specs.declared.banner.Banner.{Banner}
use Rattle.m2_frame_facts.specs.declared.style.Style.{Style}
use Rattle.m2_frame_facts.specs.declared.style.Style.TheVariants as style
use Rattle.m2_frame_facts.specs.declared.facts.Facts.{Facts}
use Rattle.m2_frame_facts.specs.Facts.{facts_of}
use Rattle.m2_frame_facts.specs.Fields.{field, fields_of}
use Rattle.m2_frame_facts.specs.Value.{bits, fields_text, Told}

abbrev pub tag_of : Item → ℕ
tag_of (whole f) = f.tag
tag_of (dropped tag) = tag

abbrev pub before_place : Style → List ℕ
before_place style.Line = []
before_place style.Json = codes "{\"at\":"

abbrev pub before_tag : Style → List ℕ
before_tag style.Line = codes " "
before_tag style.Json = codes ",\"tag\":\""

abbrev pub behind_tag : Style → List ℕ
behind_tag style.Line = []
behind_tag style.Json = codes "\""

abbrev pub line_end : Style → List ℕ
line_end style.Line = codes "\n"
line_end style.Json = codes "}\n"

unfoldable pub head_text : Style → ℕ → List ℕ → List ℕ
head_text form place name = before_place form ++ decimal place ++ before_tag form ++ name ++ behind_tag form

-- the line of a frame with this tag that says these facts
unfoldable pub told_line : Style → (place : ℕ) → (tag : ℕ) → Facts → List ℕ
told_line form place tag says = head_text form place (name_in tag) ++ fields_text form (fields_of says) ++ line_end form

unfoldable pub line_of : Style → (place : ℕ) → Item → List ℕ
line_of form place item = told_line form place (tag_of item) (facts_of item)

-- of the banner, the first bytes of a file: its features
abbrev pub banner_fields : Banner → List Told
banner_fields b = field (codes "supported") (bits b.supported) ∷ field (codes "required") (bits b.required) ∷ []

unfoldable pub banner_line : Style → Banner → List ℕ
banner_line form b = head_text form 0 (codes "BANNER") ++ fields_text form (banner_fields b) ++ line_end form
