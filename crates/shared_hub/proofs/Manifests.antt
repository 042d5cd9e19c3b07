-- A manifest, and an application with it, may cross threads. The values of its tags hold each other, so nothing is known of it beforehand.
use denote.Param.Send.{IsSend, view_send, sendable}
use denote.Param.SendFields.{declared_send}
use Rattle.std.proofs.Crossing.{Vec-send, crosses}
use Rattle.host_base.proofs.ids.AppId.TheSendSync as app_id
use Rattle.plain_data.proofs.list.List.TheSendSync as list
use Rattle.plain_data.proofs.name.Name.TheSendSync as name
use Rattle.perm_roles.proofs.roles.Role.TheSendSync as role
use Rattle.powerbox_match.proofs.value.Quality.TheSendSync as quality
use Rattle.powerbox_match.proofs.value.TagValue.TheLaws.TheKnot as knot
use Rattle.powerbox_match.specs.contracts.descriptor.Descriptor as Descriptor
use Rattle.powerbox_match.specs.contracts.descriptor.Tag as Tag
use Rattle.powerbox_match.specs.contracts.value.TagValue as TagValue
use Rattle.app_manifest.proofs.manifest.PermissionDef.TheSendSync as permission
use Rattle.app_manifest.specs.contracts.manifest.Manifest as Manifest
use Rattle.share_graph.specs.contracts.rows.App as App

value_send : IsSend TagValue.the_row
value_send = search (knot.crosses, name.the_send, crosses, sendable) depth 20

tag_send : IsSend Tag.the_row
tag_send = view_send _ _ _ _ _ (declared_send Tag.TheInside.the_type (search sendable depth 5, (value_send, (value_send, tt))))

descriptor_send : IsSend Descriptor.the_row
descriptor_send = view_send _ _ _ _ _ (declared_send Descriptor.TheInside.the_type (Vec-send _ tag_send, (quality.the_send, tt)))

pub Manifest-send : IsSend Manifest.the_row
Manifest-send =
    declared_send Manifest.the_type (
      name.the_send,
      (search sendable depth 5, (list.the_send _ permission.the_send, (list.the_send _ role.the_send, (list.the_send _ descriptor_send, tt)))),
    )

pub App-send : IsSend App.the_row
App-send = declared_send App.the_type (app_id.the_send, (Manifest-send, tt))
