-- A message that is read has the fields with which it is read again.
use Rattle.std.proofs.Common.{List, [], ◌∷◌}
use Rattle.std.specs.List.{AllByRecursion}
use Rattle.pgw_messages.specs.declared.backend.columns.Column.{Column}
use Rattle.pgw_messages.specs.declared.backend.fields.Field.{Field}
use Rattle.pgw_messages.specs.declared.frontend.message.FrontMsg.{FrontMsg}
use Rattle.pgw_messages.specs.declared.frontend.message.FrontMsg.TheVariants as front
use Rattle.pgw_messages.specs.declared.backend.message.BackMsg.{BackMsg}
use Rattle.pgw_messages.specs.declared.backend.message.BackMsg.TheVariants as back
use Rattle.pgw_messages.specs.Spelling.{HasNoZero}
use Rattle.pgw_messages.specs.Fields.{IsField, CanWriteField}
use Rattle.pgw_messages.specs.Frontend.{IsFront, HasFrontFields}
use Rattle.pgw_messages.specs.Backend.{IsColumn, IsBack, HasBackFields}

pub front_fields : (m : FrontMsg) → IsFront m → HasFrontFields m
front_fields (front.Query t) is = is.no_zero
front_fields (front.Parse m) is = (is.name.no_zero, is.query.no_zero, is.types.count)
front_fields (front.Bind m) is = (is.portal.no_zero, is.statement.no_zero, is.formats.count, is.values.count, is.results.count)
front_fields (front.Describe m) is = (is.kind, is.name.no_zero)
front_fields (front.Execute m) is = is.portal.no_zero
front_fields front.Sync is = tt
front_fields front.Flush is = tt
front_fields (front.Close m) is = (is.kind, is.name.no_zero)
front_fields (front.Call b) is = tt
front_fields (front.CopyData b) is = tt
front_fields front.CopyDone is = tt
front_fields (front.CopyFail t) is = is.no_zero
front_fields (front.Password b) is = tt
front_fields front.Terminate is = tt

columns : (cs : List Column) → AllByRecursion IsColumn cs → AllByRecursion (λ c. HasNoZero c.name) cs
columns [] is = tt
columns (c ∷ cs) is = (is.0.name.no_zero, columns cs is.1)

fields : (fs : List Field) → AllByRecursion IsField fs → AllByRecursion CanWriteField fs
fields [] is = tt
fields (f ∷ fs) is = (record { code = is.0.some; value = is.0.value.no_zero }, fields fs is.1)

pub back_fields : (m : BackMsg) → IsBack m → HasBackFields m
back_fields (back.Auth m) is = tt
back_fields (back.Status m) is = (is.name.no_zero, is.value.no_zero)
back_fields (back.Key m) is = tt
back_fields (back.Ready state) is = is
back_fields (back.Columns cs) is = (is.count, columns cs is.each)
back_fields (back.Row vs) is = is.count
back_fields (back.Complete t) is = is.no_zero
back_fields back.Empty is = tt
back_fields (back.Fault fs) is = fields fs is
back_fields (back.Notice fs) is = fields fs is
back_fields (back.Notify m) is = (is.channel.no_zero, is.payload.no_zero)
back_fields back.ParseDone is = tt
back_fields back.BindDone is = tt
back_fields back.CloseDone is = tt
back_fields (back.ParamTypes ts) is = is.count
back_fields back.NoRows is = tt
back_fields back.Suspended is = tt
back_fields (back.CopyIn m) is = is.formats.count
