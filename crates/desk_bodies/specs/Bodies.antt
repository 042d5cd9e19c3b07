-- THE BODIES of the desk's routes, and of those of a running grain. Each definition reads like its row of the table of routes: the
-- object, and its fields in their order, where one with `?` may be missing. Further keys are ignored, and of a key that stands twice the
-- last value counts, as `serde_json` reads objects.
use Rattle.std.specs.Prelude.{ℕ, ⊤, Bool, List, [], ◌∷◌, codes, Option, Result, Ok, Err}
use Rattle.serde_json.specs.Data.{Data}
use Rattle.serde_json.specs.Find.{get}
use Rattle.host_base.specs.declared.digest.Digest.{Digest}
use Rattle.host_base.specs.declared.ids.AccountId.{AccountId}
use Rattle.host_base.specs.declared.ids.GrantId.{GrantId}
use Rattle.powerbox_match.specs.Descriptor.{DescriptorData}
use Rattle.app_manifest.specs.declared.manifest.Manifest.{Manifest as AppManifest}
use Rattle.app_manifest.specs.declared.fault.ManifestFault.{ManifestFault}
use Rattle.app_manifest.specs.Stated.{object_of, stated_manifest}
use Rattle.desk_bodies.specs.declared.bodies.AccountFields.{AccountFields}
use Rattle.desk_bodies.specs.declared.bodies.ChildFields.{ChildFields}
use Rattle.desk_bodies.specs.declared.bodies.ChooseFields.{ChooseFields}
use Rattle.desk_bodies.specs.declared.bodies.ClaimFields.{ClaimFields}
use Rattle.desk_bodies.specs.declared.bodies.CollectFields.{CollectFields}
use Rattle.desk_bodies.specs.declared.bodies.GrainFields.{GrainFields}
use Rattle.desk_bodies.specs.declared.bodies.SaveFields.{SaveFields}
use Rattle.desk_bodies.specs.declared.bodies.ShareFields.{ShareFields}
use Rattle.desk_bodies.specs.declared.bodies.TokenFields.{TokenFields}
use Rattle.desk_bodies.specs.declared.fault.BodyFault.{BodyFault}
use Rattle.desk_bodies.specs.declared.fault.BodyFault.TheVariants.{Manifest}
use Rattle.desk_bodies.specs.Answers.{field}
use Rattle.desk_bodies.specs.Fields.{name_of, handle_of, mark_of, token_of, tab_of, expiry_of, number_of, account_of, after_of, member_of, app_of, grant_of, permissions_of}
use Rattle.desk_bodies.specs.Fields.{assignment_of, needs_of, query_of, offer_of}

-- the text that a body is read as: an empty body counts as `{}`
abbrev pub text_of : List ℕ → List ℕ
text_of [] = codes "{}"
text_of (b ∷ bytes) = b ∷ bytes

-- what the JSON object of a body states; a body that is none has the fault of number 0
abbrev pub in_object : {A : Type 0} → List ℕ → (Data → Result A BodyFault) → Result A BodyFault
in_object body rest = field 0 (object_of (text_of body)) rest

-- /accounts: 1 handle, 2 name
abbrev pub account_body : List ℕ → Result AccountFields BodyFault
account_body body = in_object body λ object.
    field 1 (handle_of (get (codes "handle") object)) λ handle.
    field 2 (name_of (get (codes "name") object)) λ name.
    Ok (record { handle = handle; name = name })

-- /accounts/{n}/admin and /accounts/{n}/enabled: 1 on
abbrev pub mark_body : List ℕ → Result Bool BodyFault
mark_body body = in_object body λ object.
    field 1 (mark_of (get (codes "on") object)) Ok

-- /grains: 1 app, 2 title
abbrev pub grain_body : List ℕ → Result GrainFields BodyFault
grain_body body = in_object body λ object.
    field 1 (app_of (get (codes "app") object)) λ app.
    field 2 (name_of (get (codes "title") object)) λ title.
    Ok (record { app = app; title = title })

-- /grains/{n}/trash, /grains/{n}/untrash, /grains/{n}/access, /grants/{n}/preview and the like: no field
abbrev pub plain_body : List ℕ → Result ⊤ BodyFault
plain_body body = in_object body λ object. Ok tt

-- /grains/{n}/share: 1 to, 2 assignment?, 3 needs?, 4 expires?
abbrev pub share_body : List ℕ → Result ShareFields BodyFault
share_body body = in_object body λ object.
    field 1 (account_of (get (codes "to") object)) λ to.
    field 2 (assignment_of (get (codes "assignment") object)) λ assignment.
    field 3 (needs_of (get (codes "needs") object)) λ needs.
    field 4 (expiry_of (get (codes "expires") object)) λ expires.
    Ok (record { to = to; assignment = assignment; needs = needs; expires = expires })

-- /grains/{n}/link and /grains/{n}/token: 1 assignment?, 2 needs?, 3 expires?
abbrev pub token_body : List ℕ → Result TokenFields BodyFault
token_body body = in_object body λ object.
    field 1 (assignment_of (get (codes "assignment") object)) λ assignment.
    field 2 (needs_of (get (codes "needs") object)) λ needs.
    field 3 (expiry_of (get (codes "expires") object)) λ expires.
    Ok (record { assignment = assignment; needs = needs; expires = expires })

-- /child: 1 for_sharing, 2 assignment?, 3 needs?, 4 expires?
abbrev pub child_body : List ℕ → Result ChildFields BodyFault
child_body body = in_object body λ object.
    field 1 (mark_of (get (codes "for_sharing") object)) λ for_sharing.
    field 2 (assignment_of (get (codes "assignment") object)) λ assignment.
    field 3 (needs_of (get (codes "needs") object)) λ needs.
    field 4 (expiry_of (get (codes "expires") object)) λ expires.
    Ok (record { for_sharing = for_sharing; assignment = assignment; needs = needs; expires = expires })

-- /redeem, /restore and /drop: 1 token
abbrev pub redeem_body : List ℕ → Result Digest BodyFault
redeem_body body = in_object body λ object.
    field 1 (token_of (get (codes "token") object)) Ok

-- /grains/{n}/open and /open: 1 tab?
abbrev pub tab_body : List ℕ → Result (Option ℕ) BodyFault
tab_body body = in_object body λ object.
    field 1 (tab_of (get (codes "tab") object)) Ok

-- /grains/{n}/query: 1 query
abbrev pub query_body : List ℕ → Result (List DescriptorData) BodyFault
query_body body = in_object body λ object.
    field 1 (query_of (get (codes "query") object)) Ok

-- /grains/{n}/choose: 1 offer, 2 query, 3 assignment?
abbrev pub choose_body : List ℕ → Result ChooseFields BodyFault
choose_body body = in_object body λ object.
    field 1 (offer_of (get (codes "offer") object)) λ offer.
    field 2 (query_of (get (codes "query") object)) λ query.
    field 3 (assignment_of (get (codes "assignment") object)) λ assignment.
    Ok (record { offer = offer; query = query; assignment = assignment })

-- /grains/{n}/why: 1 account
abbrev pub why_body : List ℕ → Result AccountId BodyFault
why_body body = in_object body λ object.
    field 1 (account_of (get (codes "account") object)) Ok

-- /grains/{n}/missing: 1 grant
abbrev pub grant_body : List ℕ → Result GrantId BodyFault
grant_body body = in_object body λ object.
    field 1 (grant_of (get (codes "grant") object)) Ok

-- /grains/{n}/collect: 1 grant, 2 account?
abbrev pub collect_body : List ℕ → Result CollectFields BodyFault
collect_body body = in_object body λ object.
    field 1 (grant_of (get (codes "grant") object)) λ link.
    field 2 (member_of (get (codes "account") object)) λ member.
    Ok (record { link = link; member = member })

-- /mine, /accounts/list, /apps/list and /grains/{n}/shares: 1 after?
abbrev pub after_body : List ℕ → Result ℕ BodyFault
after_body body = in_object body λ object.
    field 1 (after_of (get (codes "after") object)) Ok

-- /claim: 1 token, 2 permissions
abbrev pub claim_body : List ℕ → Result ClaimFields BodyFault
claim_body body = in_object body λ object.
    field 1 (token_of (get (codes "token") object)) λ token.
    field 2 (permissions_of (get (codes "permissions") object)) λ permissions.
    Ok (record { token = token; permissions = permissions })

-- /save: 1 handle, 2 label
abbrev pub save_body : List ℕ → Result SaveFields BodyFault
save_body body = in_object body λ object.
    field 1 (number_of (get (codes "handle") object)) λ handle.
    field 2 (name_of (get (codes "label") object)) λ label.
    Ok (record { handle = handle; label = label })

-- a manifest, or its fault as the fault of a body
abbrev pub or_fault : Result AppManifest ManifestFault → Result AppManifest BodyFault
or_fault (Ok manifest) = Ok manifest
or_fault (Err fault) = Err (Manifest fault)

-- /apps: the manifest itself, each fault of which is a manifest's
abbrev pub manifest_body : List ℕ → Result AppManifest BodyFault
manifest_body body = or_fault (stated_manifest (text_of body))
