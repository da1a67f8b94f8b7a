-- The records of a model as code has them, by value: what of the model's record each holds. The front of a record is what stands before its attributes.
use Rattle.oce_model.specs.Model.{dir_of, kind_of, Connector, Connection as ModelConnection, BoundaryOutput}
use Rattle.oce_model.specs.declared.ConnectorFront.{ConnectorFront}
use Rattle.oce_model.specs.declared.Connection.{Connection}
use Rattle.oce_model.specs.declared.BoundaryOutputFront.{BoundaryOutputFront}

-- the front of a connector
unfoldable pub connector_read : Connector → ConnectorFront
connector_read c = record { id = record { 0 = c.id }; block = record { 0 = c.block }; dir = dir_of c; value_type = kind_of c.value_type; class = c.enum_class; iri = c.iri }

-- a connection
unfoldable pub connection_read : ModelConnection → Connection
connection_read c = record { from = record { 0 = c.from }; to = record { 0 = c.to } }

-- the front of a boundary output
unfoldable pub output_read : BoundaryOutput → BoundaryOutputFront
output_read o = record { iri = o.iri; source = record { 0 = o.source } }
