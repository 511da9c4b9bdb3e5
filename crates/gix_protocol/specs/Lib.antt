-- The definitions that public clauses cite.
pub use Rattle.gixp_hash.specs.Hex
pub use Rattle.gixp_hash.specs.IdLaws
pub use Rattle.gixp_hash.specs.Failures
pub use Rattle.gixp_hash.specs.ObjectId
pub use Rattle.gixp_hash.specs.Digits
pub use Rattle.gixp_packetline.specs.FrameKind
pub use Rattle.gixp_packetline.specs.Frames
pub use Rattle.gixp_packetline.specs.Grammar
pub use Rattle.gixp_packetline.specs.FrameText
pub use Rattle.gixp_packetline.specs.Pieces
pub use Rattle.gixp_packetline.specs.Items
pub use Rattle.gixp_packetline.specs.Lines
pub use Rattle.gixp_packetline.specs.TransportState
pub use Rattle.gixp_packetline.specs.Reading
pub use Rattle.gixp_capabilities.specs.Client
pub use Rattle.gixp_transport.specs.Message
pub use Rattle.gixp_transport.specs.Transport
pub use Rattle.gixp_packetline.specs.Window
pub use Rattle.gixp_packetline.specs.PacketLine
pub use Rattle.gixp_packetline.specs.Packets
pub use Rattle.gixp_packetline.specs.LineReader
pub use Rattle.gixp_transport.specs.Bodies
pub use Rattle.gixp_transport.specs.Connection
pub use Rattle.gixp_capabilities.specs.Cut
pub use Rattle.gixp_capabilities.specs.Capabilities
pub use Rattle.gixp_capabilities.specs.Capability
pub use Rattle.gixp_transport.specs.Service
pub use Rattle.gixp_progress.specs.Progress
pub use Rattle.gixp_transport.specs.Spurious
pub use Rattle.gixp_transport.specs.CapabilityAdvertisement
pub use Rattle.gixp_transport.specs.Named
pub use Rattle.gixp_transport.specs.Greeting
pub use Rattle.gixp_transport.specs.Handshake
pub use Rattle.gixp_sidebands.specs.Bands
pub use Rattle.gixp_sidebands.specs.Ends
pub use Rattle.gixp_sidebands.specs.Reporting
pub use Rattle.gixp_sidebands.specs.Questions
pub use Rattle.gixp_sidebands.specs.Sidebands
pub use Rattle.gixp_refs.specs.Ref
pub use Rattle.gixp_refs.specs.RefLine
pub use Rattle.gixp_refs.specs.WrittenLine
pub use Rattle.gixp_packetline.specs.ReadFails
pub use Rattle.gixp_refs.specs.ParseError
pub use Rattle.gixp_packetline.specs.Runs
pub use Rattle.gixp_refs.specs.Refs
pub use Rattle.gixp_response.specs.AnswerLine
pub use Rattle.gixp_response.specs.ResponseError
pub use Rattle.gixp_response.specs.Answer
pub use Rattle.gixp_response.specs.Sections
pub use Rattle.gixp_response.specs.Beginnings
pub use Rattle.gixp_response.specs.AnswerReading
pub use Rattle.gixp_response.specs.Features
pub use Rattle.gixp_response.specs.SectionGrammar
pub use Rattle.gixp_refs.specs.RefAdvertisement
pub use Rattle.gixp_refs.specs.V1Refs
pub use Rattle.gixp_refs.specs.V1Line
pub use Rattle.gixp_response.specs.BeginningGrammar
pub use Rattle.gixp_requests.specs.Feature
pub use Rattle.gixp_requests.specs.Command
pub use Rattle.gixp_requests.specs.Arguments
pub use Rattle.gixp_requests.specs.Request
pub use Rattle.gixp_requests.specs.Offers
pub use Rattle.gixp_graph.specs.Asked
pub use Rattle.gixp_graph.specs.Complete
pub use Rattle.gixp_graph.specs.GraphData
pub use Rattle.gixp_graph.specs.GraphLaws
pub use Rattle.gixp_graph.specs.Negotiation
pub use Rattle.gixp_graph.specs.Node
pub use Rattle.gixp_graph.specs.Object
pub use Rattle.gixp_graph.specs.Queue
pub use Rattle.gixp_graph.specs.Refusals
pub use Rattle.gixp_graph.specs.Run
pub use Rattle.gixp_graph.specs.Table
pub use Rattle.gixp_graph.specs.Visited
pub use Rattle.gixp_graph.specs.Waiting
pub use Rattle.gixp_graph.specs.Walk
pub use Rattle.gixp_refspec.specs.Name
pub use Rattle.gixp_refspec.specs.Spec
pub use Rattle.gixp_refspec.specs.RefSpec
pub use Rattle.gixp_refspec.specs.PartialName
pub use Rattle.gixp_refspec.specs.Matching
pub use Rattle.gixp_refspec.specs.Texts
pub use Rattle.gixp_refspec.specs.Needle
pub use Rattle.gixp_matching.specs.Rows
pub use Rattle.gixp_matching.specs.Mappings
pub use Rattle.gixp_matching.specs.Places
pub use Rattle.gixp_matching.specs.Single
pub use Rattle.gixp_matching.specs.Firsts
pub use Rattle.gixp_matching.specs.MatchGroup
pub use Rattle.gixp_matching.specs.Validation
pub use Rattle.gixp_matching.specs.Apart
pub use Rattle.gixp_matching.specs.Groups
pub use Rattle.gixp_matching.specs.Validate
pub use Rattle.gixp_matching.specs.Leaving
pub use Rattle.gixp_matching.specs.RefspecLaws
pub use Rattle.gixp_progress.specs.Numbers
pub use Rattle.gixp_progress.specs.Line
pub use Rattle.gixp_progress.specs.Translation
pub use Rattle.gixp_progress.specs.Laws as ProgressLaws
pub use Rattle.gixp_refmap.specs.ListError
pub use Rattle.gixp_refmap.specs.Prefixes
pub use Rattle.gixp_refmap.specs.Listing
pub use Rattle.gixp_refmap.specs.ListingProgress
pub use Rattle.gixp_refmap.specs.MapError
pub use Rattle.gixp_refmap.specs.Mapping
pub use Rattle.gixp_refmap.specs.RefMapItems
pub use Rattle.gixp_refmap.specs.Made
pub use Rattle.gixp_refmap.specs.RefMapLaws
pub use Rattle.gixp_refmap.specs.Missing
pub use Rattle.gixp_refmap.specs.Tags
pub use Rattle.gixp_refmap.specs.Values
pub use Rattle.gixp_handshake.specs.Credentials
pub use Rattle.gixp_handshake.specs.ShakeError
pub use Rattle.gixp_handshake.specs.Shake
pub use Rattle.gixp_handshake.specs.WithoutAccount
pub use Rattle.gixp_handshake.specs.ShakeProgress
pub use Rattle.gixp_handshake.specs.Accepted
pub use Rattle.gixp_handshake.specs.Obtain
pub use Rattle.gixp_handshake.specs.ObtainProgress
pub use Rattle.gixp_handshake.specs.Taken
pub use Rattle.gixp_handshake.specs.HandshakeValues
pub use Rattle.gixp_handshake.specs.Ending
pub use Rattle.gixp_negotiate.specs.Negotiate
pub use Rattle.gixp_negotiate.specs.NegotiateError
pub use Rattle.gixp_negotiate.specs.Rounds
pub use Rattle.gixp_negotiate.specs.Distinct
pub use Rattle.gixp_negotiate.specs.NegotiationMapping
pub use Rattle.gixp_shallow.specs.Shallow
pub use Rattle.gixp_negotiate.specs.Wants
pub use Rattle.gixp_negotiate.specs.Marking
pub use Rattle.gixp_negotiate.specs.Stopped
pub use Rattle.gixp_negotiate.specs.FirstStep
pub use Rattle.gixp_negotiate.specs.MarkLaws
pub use Rattle.gixp_negotiate.specs.RoundLaws
pub use Rattle.gixp_negotiate.specs.Ignored
pub use Rattle.gixp_negotiators.specs.HaveList
pub use Rattle.gixp_negotiate.specs.DecisionLaws
pub use Rattle.gixp_fetch.specs.FetchError
pub use Rattle.gixp_shallow.specs.Store
pub use Rattle.gixp_fetch.specs.View
pub use Rattle.gixp_fetch.specs.FetchRounds
pub use Rattle.gixp_fetch.specs.Receive
pub use Rattle.gixp_fetch.specs.Received
pub use Rattle.gixp_fetch.specs.Consume
pub use Rattle.gixp_fetch.specs.FetchShallow
pub use Rattle.gixp_fetch.specs.Session
pub use Rattle.gixp_fetch.specs.Fetch
pub use Rattle.gixp_fetch.specs.Fetched
pub use Rattle.gixp_fetch.specs.Prepare
pub use Rattle.gixp_fetch.specs.Bound
pub use Rattle.gixp_fetch.specs.Sent
pub use Rattle.gixp_shallow.specs.Boundary
pub use Rattle.gixp_shallow.specs.ShallowText
pub use Rattle.gixp_shallow.specs.ShallowFile
pub use Rattle.gixp_shallow.specs.ShallowMemory
pub use Rattle.gixp_fetch.specs.Sessions
pub use Rattle.gixp_fetch.specs.Again
pub use Rattle.gixp_fetch.specs.Mapped
pub use Rattle.gixp_fetch.specs.Headline
pub use Rattle.gixp_negotiators.specs.Algorithm as NegotiatorAlgorithm
pub use Rattle.gixp_negotiators.specs.AlgorithmLaws as NegotiatorAlgorithmLaws
pub use Rattle.gixp_negotiators.specs.Calls as NegotiatorCalls
pub use Rattle.gixp_negotiators.specs.Distance as NegotiatorDistance
pub use Rattle.gixp_negotiators.specs.Marks as NegotiatorMarks
pub use Rattle.gixp_negotiators.specs.AddedMarks as NegotiatorAddedMarks
pub use Rattle.gixp_negotiators.specs.CommitMarks as NegotiatorCommitMarks
pub use Rattle.gixp_negotiators.specs.Offered as NegotiatorOffered
pub use Rattle.gixp_negotiators.specs.MarkLaws as NegotiatorMarkLaws
pub use Rattle.gixp_negotiators.specs.Passing as NegotiatorPassing
pub use Rattle.gixp_negotiators.specs.Spread as NegotiatorSpread
pub use Rattle.gixp_negotiators.specs.NewlyCommon as NegotiatorNewlyCommon
pub use Rattle.gixp_negotiators.specs.NewlySeen as NegotiatorNewlySeen
pub use Rattle.gixp_negotiators.specs.SpreadLaws as NegotiatorSpreadLaws
pub use Rattle.gixp_negotiators.specs.Dated as NegotiatorDated
pub use Rattle.gixp_negotiators.specs.LooksUpCommits as NegotiatorLooksUpCommits
pub use Rattle.gixp_negotiators.specs.Newest as NegotiatorNewest
pub use Rattle.gixp_negotiators.specs.OwnCalls as NegotiatorOwnCalls
pub use Rattle.gixp_negotiators.specs.Owed as NegotiatorOwed
pub use Rattle.gixp_negotiators.specs.Queued as NegotiatorQueued
pub use Rattle.gixp_negotiators.specs.Unread as NegotiatorUnread
pub use Rattle.gixp_negotiators.specs.Waiting as NegotiatorWaiting
pub use Rattle.gixp_negotiators.specs.Work as NegotiatorWork
pub use Rattle.gixp_utils.specs.Lines as TextLines
pub use Rattle.gixp_negotiators.specs.WaitingLaws as NegotiatorWaitingLaws
pub use Rattle.gixp_memory.specs.Text as RepositoryText
pub use Rattle.gixp_memory.specs.Repository
pub use Rattle.gixp_reachable.specs.Ids
pub use Rattle.gixp_reachable.specs.Reachable
pub use Rattle.gixp_reachable.specs.Reached
pub use Rattle.gixp_reachable.specs.declared.reached.Reached as ReachedType
pub use Rattle.gixp_packetline.specs.ServerMessage
pub use Rattle.gixp_packetline.specs.ReadAhead
pub use Rattle.gixp_capabilities.specs.ClientMessage
pub use Rattle.gixp_response.specs.AnswerMessage
pub use Rattle.gixp_refs.specs.RefsMessage
pub use Rattle.gixp_refmap.specs.MapMessage
pub use Rattle.gixp_refmap.specs.SafeNames
pub use Rattle.gixp_handshake.specs.HandshakeMessage
pub use Rattle.gixp_fetch.specs.FetchMessage
-- The types of these definitions.
pub use Rattle.gixp_hash.specs.declared.object_id.ObjectId as ObjectIdType
pub use Rattle.gixp_refs.specs.declared.handshake.refs.parse.Error as RefsError
pub use Rattle.gixp_matching.specs.declared.match_group.validate.Fix as FixType
pub use Rattle.gixp_refmap.specs.declared.refmap.mapping.Mapping as MappingType
pub use Rattle.gixp_refmap.specs.declared.refmap.map.RefMap as RefMapType
pub use Rattle.gixp_handshake.specs.declared.handshake.read.Handshake as HandshakeType
pub use Rattle.gixp_hash.specs.declared.decode.Error as IdErrorType
pub use Rattle.gixp_hash.specs.declared.kind.Kind as KindType
pub use Rattle.gixp_packetline.specs.declared.line_reader.LineReader as LineReaderType
pub use Rattle.gixp_packetline.specs.declared.packet.Frame as FrameType
pub use Rattle.gixp_packetline.specs.declared.packet.PacketError as PacketErrorType
pub use Rattle.gixp_packetline.specs.declared.packet_line.PacketLine as PacketLineType
pub use Rattle.gixp_packetline.specs.declared.protocol.Protocol as ProtocolType
pub use Rattle.gixp_packetline.specs.declared.protocol.MessageKind as MessageKindType
pub use Rattle.gixp_packetline.specs.declared.read.Error as ReadErrorType
pub use Rattle.gixp_capabilities.specs.declared.capabilities.Capabilities as CapabilitiesType
pub use Rattle.gixp_capabilities.specs.declared.capabilities.Capability as CapabilityType
pub use Rattle.gixp_capabilities.specs.declared.capabilities.CapabilityIter as CapabilityIterType
pub use Rattle.gixp_capabilities.specs.declared.client.Error as ClientErrorType
pub use Rattle.gixp_transport.specs.declared.bodies.Body as BodyType
pub use Rattle.gixp_transport.specs.declared.bodies.Bodies as BodiesType
pub use Rattle.gixp_transport.specs.declared.connection.Connection as ConnectionType
pub use Rattle.gixp_transport.specs.declared.message.Message as MessageType
pub use Rattle.gixp_transport.specs.declared.service.Service as ServiceType
pub use Rattle.gixp_transport.specs.declared.service.Account as AccountType
pub use Rattle.gixp_transport.specs.declared.service.Opening as OpeningType
pub use Rattle.gixp_transport.specs.declared.service.SetServiceResponse as SetServiceResponseType
pub use Rattle.gixp_sidebands.specs.declared.sidebands.WithSidebands as WithSidebandsType
pub use Rattle.gixp_sidebands.specs.declared.sidebands.interrupt.NeverInterrupt as NeverInterruptType
pub use Rattle.gixp_sidebands.specs.declared.sidebands.interrupt.InterruptFlag as InterruptFlagType
pub use Rattle.gixp_response.specs.declared.fetch.response.answer.Response as ResponseType
pub use Rattle.gixp_response.specs.declared.fetch.response.error.RequiredFeature as RequiredFeatureType
pub use Rattle.gixp_response.specs.declared.fetch.response.error.Error as AnswerErrorType
pub use Rattle.gixp_response.specs.declared.fetch.response.line.Acknowledgement as AcknowledgementType
pub use Rattle.gixp_shallow.specs.declared.update.ShallowUpdate as ShallowUpdateType
pub use Rattle.gixp_response.specs.declared.fetch.response.line.WantedRef as WantedRefType
pub use Rattle.gixp_refs.specs.declared.handshake.Ref as RefType
pub use Rattle.gixp_refs.specs.declared.handshake.refs.parse.Invariant as InvariantType
pub use Rattle.gixp_requests.specs.declared.command.Command as CommandType
pub use Rattle.gixp_requests.specs.declared.command.table.CommandTable as CommandTableType
pub use Rattle.gixp_requests.specs.declared.command.validate_argument_prefixes.Error as RequestErrorType
pub use Rattle.gixp_requests.specs.declared.fetch.arguments.Arguments as ArgumentsType
pub use Rattle.gixp_graph.specs.declared.flags.Flags as FlagsType
pub use Rattle.gixp_graph.specs.declared.graph.Graph as GraphType
pub use Rattle.gixp_graph.specs.declared.negotiator.NegotiatorError as NegotiatorErrorType
pub use Rattle.gixp_graph.specs.declared.objects.ObjectKind as ObjectKindType
pub use Rattle.gixp_graph.specs.declared.objects.CommitData as CommitDataType
pub use Rattle.gixp_graph.specs.declared.objects.ObjectError as ObjectErrorType
pub use Rattle.gixp_graph.specs.declared.refs.RefStoreError as RefStoreErrorType
pub use Rattle.gixp_refspec.specs.declared.instruction.Instruction as InstructionType
pub use Rattle.gixp_refspec.specs.declared.instruction.Fetch as FetchType
pub use Rattle.gixp_refspec.specs.declared.name.PartialName as PartialNameType
pub use Rattle.gixp_refspec.specs.declared.parse.Operation as OperationType
pub use Rattle.gixp_refspec.specs.declared.parse.Error as RefspecErrorType
pub use Rattle.gixp_refspec.specs.declared.spec.RefSpecRef as RefSpecRefType
pub use Rattle.gixp_refspec.specs.declared.spec.RefSpec as RefSpecType
pub use Rattle.gixp_matching.specs.declared.match_group.Item as ItemType
pub use Rattle.gixp_matching.specs.declared.match_group.Place as PlaceType
pub use Rattle.gixp_matching.specs.declared.match_group.single.Single as SingleType
pub use Rattle.gixp_matching.specs.declared.match_group.SourceRef as SourceRefType
pub use Rattle.gixp_matching.specs.declared.match_group.Mapping as GroupMappingType
pub use Rattle.gixp_matching.specs.declared.match_group.Outcome as GroupOutcomeType
pub use Rattle.gixp_matching.specs.declared.match_group.MatchGroup as MatchGroupType
pub use Rattle.gixp_matching.specs.declared.match_group.validate.Issue as IssueType
pub use Rattle.gixp_matching.specs.declared.match_group.validate.Error as ConflictErrorType
pub use Rattle.gixp_progress.specs.declared.discard.Discard as DiscardType
pub use Rattle.gixp_progress.specs.declared.fetch.ProgressId as ProgressIdType
pub use Rattle.gixp_progress.specs.declared.remote_progress.RemoteProgress as RemoteProgressType
pub use Rattle.gixp_refmap.specs.declared.fetch.Tags as TagsType
pub use Rattle.gixp_refmap.specs.declared.ls_refs.command.LsRefsCommand as LsRefsCommandType
pub use Rattle.gixp_refmap.specs.declared.ls_refs.error.Error as ListErrorType
pub use Rattle.gixp_refmap.specs.declared.ls_refs.prefixes.RefPrefixes as RefPrefixesType
pub use Rattle.gixp_refmap.specs.declared.refmap.init.Context as MapContextType
pub use Rattle.gixp_refmap.specs.declared.refmap.init.Error as MapErrorType
pub use Rattle.gixp_refmap.specs.declared.refmap.mapping.Source as SourceType
pub use Rattle.gixp_refmap.specs.declared.refmap.mapping.SpecIndex as SpecIndexType
pub use Rattle.gixp_handshake.specs.declared.credentials.Action as CredentialsActionType
pub use Rattle.gixp_handshake.specs.declared.credentials.NextAction as NextActionType
pub use Rattle.gixp_handshake.specs.declared.credentials.Outcome as CredentialsOutcomeType
pub use Rattle.gixp_handshake.specs.declared.credentials.Error as CredentialsErrorType
pub use Rattle.gixp_handshake.specs.declared.handshake.error.Error as HandshakeErrorType
pub use Rattle.gixp_handshake.specs.declared.handshake.ref_map.ObtainRefMap as ObtainRefMapType
pub use Rattle.gixp_handshake.specs.declared.util.SendFlushOnDrop as SendFlushOnDropType
pub use Rattle.gixp_negotiate.specs.declared.negotiate.Action as ActionType
pub use Rattle.gixp_negotiate.specs.declared.negotiate.Round as RoundType
pub use Rattle.gixp_negotiate.specs.declared.negotiate.Error as NegotiateErrorType
pub use Rattle.gixp_negotiate.specs.declared.negotiate.ignore.IgnoreMapping as IgnoreMappingType
pub use Rattle.gixp_negotiate.specs.declared.negotiate.negotiation.NegotiateContext as NegotiateContextType
pub use Rattle.gixp_negotiate.specs.declared.negotiate.negotiation.Negotiation as NegotiationType
pub use Rattle.gixp_graph.specs.declared.empty.NoObjects as NoObjectsType
pub use Rattle.gixp_graph.specs.declared.empty.NoRefs as NoRefsType
pub use Rattle.gixp_negotiators.specs.declared.have_list.HaveList as HaveListType
pub use Rattle.gixp_shallow.specs.declared.shallow.Shallow as ShallowType
pub use Rattle.gixp_fetch.specs.declared.consume.copy.CopyError as CopyErrorType
pub use Rattle.gixp_fetch.specs.declared.consume.copy.CopyPack as CopyPackType
pub use Rattle.gixp_fetch.specs.declared.consume.copy.ReadToEnd as ReadToEndType
pub use Rattle.gixp_fetch.specs.declared.error.Error as FetchErrorType
pub use Rattle.gixp_fetch.specs.declared.options.NegotiateOutcome as NegotiateOutcomeType
pub use Rattle.gixp_fetch.specs.declared.options.Outcome as FetchOutcomeType
pub use Rattle.gixp_fetch.specs.declared.options.Context as FetchContextType
pub use Rattle.gixp_fetch.specs.declared.options.Options as OptionsType
pub use Rattle.gixp_fetch.specs.declared.remote_text.RemoteText as RemoteTextType
pub use Rattle.gixp_shallow.specs.declared.store.ShallowError as ShallowErrorType
pub use Rattle.gixp_shallow.specs.declared.store.file.ShallowFile as ShallowFileType
pub use Rattle.gixp_shallow.specs.declared.store.memory.ShallowMemory as ShallowMemoryType
pub use Rattle.gixp_negotiators.specs.declared.algorithm.Algorithm as AlgorithmType
pub use Rattle.gixp_negotiators.specs.declared.algorithm.AnyNegotiator as AnyNegotiatorType
pub use Rattle.gixp_negotiators.specs.declared.consecutive.Consecutive as ConsecutiveType
pub use Rattle.gixp_negotiators.specs.declared.noop.Noop as NoopType
pub use Rattle.gixp_negotiators.specs.declared.skipping.Skipping as SkippingType
pub use Rattle.gixp_graph.specs.declared.shared.Shared as SharedType
pub use Rattle.gixp_memory.specs.declared.texts.TextError as TextErrorType
pub use Rattle.gixp_memory.specs.declared.stored_objects.StoredObjects as StoredObjectsType
pub use Rattle.gixp_memory.specs.declared.stored_refs.StoredRefs as StoredRefsType
pub use Rattle.gixp_memory.specs.declared.stored_refs.NoAlternates as NoAlternatesType
pub use Rattle.gixp_updates.specs.Ancestors
pub use Rattle.gixp_updates.specs.LocalSide
pub use Rattle.gixp_updates.specs.LookUps
pub use Rattle.gixp_updates.specs.Limits
pub use Rattle.gixp_updates.specs.Modes
pub use Rattle.gixp_updates.specs.NamedEdits
pub use Rattle.gixp_updates.specs.Unmatched
pub use Rattle.gixp_updates.specs.UpdateError
pub use Rattle.gixp_updates.specs.declared.refs.edit.Edit as EditType
pub use Rattle.gixp_updates.specs.declared.refs.edit.Update as UpdateType
pub use Rattle.gixp_updates.specs.declared.refs.error.Error as UpdateErrorType
pub use Rattle.gixp_updates.specs.declared.refs.unmatched.UnmatchedSpec as UnmatchedSpecType
pub use Rattle.gixp_updates.specs.declared.refs.update.Mode as ModeType
pub use Rattle.gixp_updates.specs.declared.refs.update.Options as UpdateOptionsType
pub use Rattle.gixp_client.specs.Boundaries
pub use Rattle.gixp_client.specs.Changes
pub use Rattle.gixp_client.specs.ClientCalls
pub use Rattle.gixp_client.specs.ClientError
pub use Rattle.gixp_client.specs.ErrorClasses
pub use Rattle.gixp_client.specs.Clashes
pub use Rattle.gixp_client.specs.ClientMaps
pub use Rattle.gixp_client.specs.ClientNames
pub use Rattle.gixp_client.specs.ClientPromise
pub use Rattle.gixp_client.specs.Doubted
pub use Rattle.gixp_client.specs.Filters
pub use Rattle.gixp_client.specs.FirstArguments
pub use Rattle.gixp_client.specs.IdSpecs
pub use Rattle.gixp_client.specs.ListEnds
pub use Rattle.gixp_client.specs.Listening
pub use Rattle.gixp_client.specs.Reasons
pub use Rattle.gixp_client.specs.Requests
pub use Rattle.gixp_client.specs.Sentences
pub use Rattle.gixp_client.specs.SentTags
pub use Rattle.gixp_client.specs.ServerWords
pub use Rattle.gixp_client.specs.SessionFetch
pub use Rattle.gixp_client.specs.SessionRefs
pub use Rattle.gixp_client.specs.SessionStates
pub use Rattle.gixp_client.specs.Tables
pub use Rattle.gixp_client.specs.Unshallowed
pub use Rattle.gixp_client.specs.Windows
pub use Rattle.gixp_client.specs.declared.error.Error as SessionErrorType
pub use Rattle.gixp_client.specs.declared.name.ClientName as ClientNameType
pub use Rattle.gixp_client.specs.declared.request.Request as RequestType
pub use Rattle.gixp_client.specs.declared.state.State as SessionStateType
pub use Rattle.gixp_client.specs.declared.session.Session as SessionType
pub use Rattle.gixp_client.specs.declared.boundary.Boundary as BoundaryType
pub use Rattle.gixp_client.specs.declared.changes.LocalChange as LocalChangeType
pub use Rattle.gixp_client.specs.declared.class.ErrorClass as ErrorClassType
pub use Rattle.gixp_client.specs.declared.conflict.Conflict as SessionConflictType
pub use Rattle.gixp_client.specs.declared.consumer.PackError as PackErrorType
pub use Rattle.gixp_client.specs.declared.fetched.Fetched as FetchedType
pub use Rattle.gixp_client.specs.declared.messages.Messages as MessagesType
pub use Rattle.gixp_client.specs.declared.tap.Tap as TapType
pub use Rattle.gixp_client.specs.declared.listen.Kept as KeptType
pub use Rattle.gixp_client.specs.declared.listen.RemoteLines as RemoteLinesType
pub use Rattle.gixp_client.specs.declared.listen.ServerText as ServerTextType
pub use Rattle.gixp_client.specs.declared.listen.Silent as SilentType
pub use Rattle.gixp_client.specs.declared.filter.Filtered as FilteredType
pub use Rattle.gixp_client.specs.declared.repository.Repository as RepositoryType
pub use Rattle.gixp_client.specs.declared.unshallow_check.UnshallowCheck as WatchedType
pub use Rattle.gixp_client.specs.declared.windows.Windowed as WindowedType
pub use Rattle.gixp_matching.specs.declared.match_group.key.KeyBytes as KeyBytesType
pub use Rattle.gixp_matching.specs.declared.match_group.key.KeySource as KeySourceType
pub use Rattle.gixp_negotiate.specs.declared.negotiate.one_round.State as RoundStateType
pub use Rattle.gixp_client.specs.declared.tables.UriProtocols as UriProtocolsType
