-- THE ANSWER to the question what may be chosen, as JSON: an item for each offer that is listed, in the order of the list. The keys of
-- an item stand in the order of their bytes.
use Rattle.std.specs.Prelude.{ℕ, Bool, false, List, [], ◌∷◌, ◌++◌, map, codes}
use Rattle.std.specs.List.{join_with_byte}
use Rattle.powerbox_match.specs.declared.value.Quality.{Quality}
use Rattle.powerbox_match.specs.declared.value.Quality.TheVariants.{Acceptable, Preferred, Unacceptable}
use Rattle.share_graph.specs.declared.desk.Offer.{Offer}
use Rattle.share_graph.specs.declared.desk.Offer.TheVariants.{Grain, Site}
use Rattle.saved_refs.specs.declared.listed.Listed.{Listed}
use Rattle.front_http.specs.Texts.{reply_text}
use Rattle.reply_texts.specs.Done.{number_member, text_member}

-- what a quality is called
abbrev pub quality_name : Quality → List ℕ
quality_name Acceptable = codes "acceptable"
quality_name Preferred = codes "preferred"
quality_name Unacceptable = codes "unacceptable"

-- the members of an item: a grain, or an item of the site's own and its tag
abbrev pub item_members : Offer → Quality → List (List ℕ)
item_members (Grain n) quality =
    number_member (codes "grain") n.0
    ∷ text_member (codes "quality") (quality_name quality)
    ∷ []
item_members (Site tag item) quality =
    number_member (codes "item") item
    ∷ text_member (codes "quality") (quality_name quality)
    ∷ number_member (codes "site") tag
    ∷ []

-- an item
unfoldable pub item_text : Listed → List ℕ
item_text listed = codes "{" ++ join_with_byte 44 (item_members listed.offer listed.quality) ++ codes "}"

-- the object with the items
abbrev pub options_body : List Listed → List ℕ
options_body listed = codes "{\"options\":[" ++ join_with_byte 44 (map item_text listed) ++ codes "]}"

-- the answer to the question
abbrev pub options_text : List Listed → Bool → List ℕ
options_text listed head_only = reply_text 200 false (options_body listed) head_only
